-- `react` makes one step and then null steps. Assumes nothing.
use Rattle.std.proofs.Common.{◌≡◌, Err, rules}
use mir.Facts.{to_z-of_z}
use Rattle.widget.proofs.Going.{then_on, then_stop}
use Rattle.reaction.proofs.RunLaws.{step_ready}
use Rattle.reaction.proofs.running.react.Goals as goal

pub returns-in_err-next : goal.returns-in_err-next
returns-in_err-next c =
    let q : c.from_residual.result ≡ Err c.in_err-next.field-0.0 = search rules in
    rw q (then_stop _ (rw (to_z-of_z c.ranges.arg) at c.in_err-next.ensures))

pub settle-requires : goal.settle-requires
settle-requires c = step_ready _ c.args.c.now.prepared.ruled _ _ c.requires c.in_ok-next.ensures

pub returns : goal.returns
returns c = then_on (rw (to_z-of_z c.ranges.arg) at c.in_ok-next.ensures) c.settle.ensures
