-- `run_examined` tries 7, 6 and 8 in turn, then reacts to the front event. Assumes nothing.
use mathlib.Core.Path.{refl, sym, ap, ◌∙◌}
use borrow.Author.Rules.{rules}
use borrow.Author.Tests.{not-true, not-false}
use mir.Facts.{to_z-of_z}
use mir.Syntax.{w32}
use mir.Val.{SFits}
use Rattle.numbers.specs.Reference.{ref}
use Rattle.meaning.specs.WellFormed.{plan_by}
use Rattle.ends.proofs.Ending.{ends_as}
use Rattle.machine.proofs.Runs.{run_7, run_6, run_8, run_ends}
use Rattle.machine.proofs.running.run_examined.Goals as goal

pub returns-then-not-state : goal.returns-then-not-state
returns-then-not-state c =
    let a = c.args in
    ends_as a.trace.now
    (run_7 (plan_by a.plan.now) a.state _ (not-true _ c.if-not-state.true))
    c.refuse.ensures

pub returns-then-not-own : goal.returns-then-not-own
returns-then-not-own c =
    let a = c.args in
    ends_as a.trace.now
    (run_6 (plan_by a.plan.now) a.state _ (not-false _ c.if-not-state.false)
    (sym c.own.ensures ∙ c.if-not-own.true))
    c.refuse-then-not-own.ensures

pub returns-in_default : goal.returns-in_default
returns-in_default c =
    let a = c.args in
    ends_as a.trace.now (run_8 (plan_by a.plan.now) a.state _
    (not-false _ c.if-not-state.false)
    (sym c.own.ensures ∙ c.if-not-own.false) _ (rw c.in_default.is at c.remove-front.ensures) refl) c.refuse-in_default.ensures

pub finish-requires : goal.finish-requires
finish-requires c = c.react-went.ensures.fits

pub returns : goal.returns
returns c =
    let a = c.args in
    let n = c.of-planned.ensures.numbers in
    let fe : SFits w32 c.in-Some.front.event = search rules in
    let fa : SFits w32 c.in-Some.front.arg = search rules in
    run_ends (plan_by a.plan.now) a.state _ (rw c.in-Some.is at c.remove-front.ensures)
    (not-false _ c.if-not-state.false)
    (sym c.own.ensures ∙ c.if-not-own.false) refl _ a.trace.now _ _ c.with_queue-widget.ensures
    (c.reference-event.ensures ∙ ap ref (to_z-of_z fe)) (to_z-of_z fa)
    (rw n at c.react-went.ensures) c.finish.ensures
