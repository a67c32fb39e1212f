-- `settle` makes null steps until none is enabled; a 33rd is refused. Assumes nothing.
use mathlib.Core.Path.{◌≡◌}
use native.Mathlib.Omega.{arith}
use borrow.Author.Rules.{rules}
use Rattle.std.specs.Prelude.{Err}
use Rattle.plan_steps.proofs.Settling.{all_heads, settling_begin, settling_end, settling_full, settling_stop, settling_on}
use Rattle.plan_steps.proofs.settle.Goals as goal

pub loop-count-init : goal.loop-count-init
loop-count-init c = settling_begin c.requires

pub fire_all-requires : goal.fire_all-requires
fire_all-requires c = (all_heads c.loop-count.widget c.choose-count.ensures, c.loop-count.invariant.owes.fits)

pub returns-in_err-next : goal.returns-in_err-next
returns-in_err-next c =
    let q : c.from_residual.result ≡ Err c.in_err-next.field-0.0 = search rules in
    rw q (settling_stop c.loop-count.invariant c.choose-count.ensures c.if-count-eq0.false c.if-turns-eq-NULL_STEPS.false
    c.in_err-next.ensures)

pub loop-count-preserved : goal.loop-count-preserved
loop-count-preserved c =
    settling_on c.loop-count.invariant c.choose-count.ensures c.if-count-eq0.false c.if-turns-eq-NULL_STEPS.false c.in_ok-next.ensures

pub returns-then-count-eq0 : goal.returns-then-count-eq0
returns-then-count-eq0 c = settling_end c.loop-count.invariant c.choose-count.ensures c.if-count-eq0.true

pub returns-then-turns-eq-NULL_STEPS : goal.returns-then-turns-eq-NULL_STEPS
returns-then-turns-eq-NULL_STEPS c =
    settling_full c.loop-count.invariant c.choose-count.ensures c.if-count-eq0.false c.if-turns-eq-NULL_STEPS.true
