-- `settle` makes null steps until none is enabled; a 33rd is refused. Assumes nothing.
use Rattle.std.proofs.Common.{◌≡◌, Err, rules, arith}
use lib.ListN.{length-replicate}
use Rattle.sizes.specs.Sizes.{TRANSITIONS}
use Rattle.choice.specs.declared.Pick.{Pick}
use Rattle.choice.specs.Choice.{free}
use Rattle.tree.proofs.Passing.{sound}
use Rattle.reaction.proofs.Going.{sized}
use Rattle.reaction.proofs.Settling.{settling_begin, settling_end, settling_full, settling_stop, settling_on, chose_fires}
use Rattle.reaction.proofs.steps.settle.Goals as goal

pub loop-picks-init : goal.loop-picks-init
loop-picks-init c = (settling_begin c.requires, length-replicate {A = Pick} TRANSITIONS free)

pub choose-count-requires : goal.choose-count-requires
choose-count-requires c = (c.args.c.now.prepared.ruled, c.loop-picks.invariant.1)

pub fire_all-requires : goal.fire_all-requires
fire_all-requires c = (c.loop-picks.invariant.0.ready, chose_fires c.choose-count.ensures)

pub overflow_add-turns : goal.overflow_add-turns
overflow_add-turns c = omega (arith, c.loop-picks.invariant.0.few)

pub loop-picks-smaller : goal.loop-picks-smaller
loop-picks-smaller c = omega (arith, c.loop-picks.invariant.0.few, c.if-turns-eq-NULL_STEPS.false)

pub loop-picks-preserved : goal.loop-picks-preserved
loop-picks-preserved c =
    let g = c.choose-count.ensures in
    let r = c.args.c.now.prepared.ruled in (
      settling_on c.loop-picks.invariant.0 g c.if-count-eq0.false
          c.if-turns-eq-NULL_STEPS.false (sound _ r) (sized _ r) c.in_ok-next.ensures,
      g.size,
    )

pub returns-then-count-eq0 : goal.returns-then-count-eq0
returns-then-count-eq0 c = settling_end c.loop-picks.invariant.0 c.choose-count.ensures c.if-count-eq0.true

pub returns-then-turns-eq-NULL_STEPS : goal.returns-then-turns-eq-NULL_STEPS
returns-then-turns-eq-NULL_STEPS c =
    settling_full c.loop-picks.invariant.0
    c.choose-count.ensures c.if-count-eq0.false c.if-turns-eq-NULL_STEPS.true

pub returns-in_err-next : goal.returns-in_err-next
returns-in_err-next c =
    let q : c.from_residual.result ≡ Err c.in_err-next.field-0.0 = search rules in
    rw q (settling_stop c.loop-picks.invariant.0
    c.choose-count.ensures c.if-count-eq0.false
    c.if-turns-eq-NULL_STEPS.false c.in_err-next.ensures)
