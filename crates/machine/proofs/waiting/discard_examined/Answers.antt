-- `discard_examined` makes the tests in their order and removes. Assumes nothing.
use mathlib.Core.Path.{refl, sym, ◌∙◌}
use borrow.Author.Tests.{not-true, not-false}
use Rattle.meaning.specs.WellFormed.{plan_by}
use Rattle.machine.proofs.Waits.{discard_7, discard_6, discard_8, discard_0}
use Rattle.machine.proofs.waiting.discard_examined.Goals as goal

pub returns-then-not-state : goal.returns-then-not-state
returns-then-not-state c =
    let a = c.args in
    c.refused.ensures ∙ discard_7 (plan_by a.plan.now) a.state (not-true _ c.if-not-state.true)

pub returns-then-not-own : goal.returns-then-not-own
returns-then-not-own c =
    let a = c.args in
    c.refused-then-not-own.ensures ∙ discard_6 (plan_by a.plan.now) a.state
    (not-false _ c.if-not-state.false)
    (sym c.own.ensures ∙ c.if-not-own.true)

pub returns-in_default : goal.returns-in_default
returns-in_default c =
    let a = c.args in
    c.refused-in_default.ensures
    ∙ discard_8 (plan_by a.plan.now) a.state
    (not-false _ c.if-not-state.false)
    (sym c.own.ensures ∙ c.if-not-own.false)
    (rw c.in_default.is at c.remove-front.ensures) refl

pub returns : goal.returns
returns c =
    let a = c.args in
    (rw c.with_queue.ensures at c.done.ensures)
    ∙ discard_0 (plan_by a.plan.now) a.state
    (not-false _ c.if-not-state.false)
    (sym c.own.ensures ∙ c.if-not-own.false)
    (rw c.in-Some.is at c.remove-front.ensures) refl
