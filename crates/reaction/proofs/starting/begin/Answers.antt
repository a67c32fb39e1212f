-- `begin` enters the root, goes down by defaults and settles. Assumes nothing.
use Rattle.std.proofs.Common.{◌≡◌, Err, rules}
use Rattle.meaning.specs.Calls.{start_steps}
use Rattle.widget.proofs.Going.{then_on, then_stop}
use Rattle.reaction.proofs.Going.{ready_next, ready_led}
use Rattle.reaction.proofs.StartLaws.{root_inside, root_good, defaults_good}
use Rattle.reaction.proofs.starting.begin.Goals as goal

pub returns-in_err-root : goal.returns-in_err-root
unfolding start_steps
returns-in_err-root c =
    let q : c.from_residual.result ≡ Err c.in_err-root.field-0.0 = search rules in
    rw q (then_stop _ (then_stop _ c.in_err-root.ensures))

pub descend-requires : goal.descend-requires
descend-requires c =
    let r = c.args.c.now.prepared.ruled in (
      tt,
      root_inside _ r,
      ready_led (ready_next _ (root_good _ r) c.in_ok-root.ensures c.requires),
      c.in_ok-root.ensures.fits,
    )

pub returns-in_err-down : goal.returns-in_err-down
unfolding start_steps
returns-in_err-down c =
    let q : c.from_residual-in_err-down.result ≡ Err c.in_err-down.field-0.0 = search rules in
    rw q (then_stop _ (then_on c.in_ok-root.ensures c.in_err-down.ensures))

pub settle-requires : goal.settle-requires
settle-requires c =
    let r = c.args.c.now.prepared.ruled in
    ready_next _ (defaults_good _ r) c.in_ok-down.ensures (ready_next _ (root_good _ r) c.in_ok-root.ensures c.requires)

pub returns : goal.returns
unfolding start_steps
returns c = then_on (then_on c.in_ok-root.ensures c.in_ok-down.ensures) c.settle.ensures
