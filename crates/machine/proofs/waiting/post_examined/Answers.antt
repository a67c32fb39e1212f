-- `post_examined` makes the tests in their order and appends. Assumes nothing.
use mathlib.Core.Path.{refl, sym, ◌∙◌}
use borrow.Author.Tests.{not-true, not-false}
use mir.Facts.{to_z-of_z}
use Rattle.meaning.specs.WellFormed.{plan_by}
use Rattle.plan_own.proofs.Clauses.{events_is}
use Rattle.machine.proofs.Waits.{post_7, post_6, post_10, post_9, post_0}
use Rattle.machine.proofs.waiting.post_examined.Goals as goal

pub returns-then-not-state : goal.returns-then-not-state
returns-then-not-state c =
    let a = c.args in
    c.refused.ensures ∙ post_7 (plan_by a.plan.now) a.state a.event a.arg
    (not-true _ c.if-not-state.true)

pub returns-then-not-own : goal.returns-then-not-own
returns-then-not-own c =
    let a = c.args in
    c.refused-then-not-own.ensures
    ∙ post_6 (plan_by a.plan.now) a.state a.event a.arg
    (not-false _ c.if-not-state.false)
    (sym c.own.ensures ∙ c.if-not-own.true)

pub returns-then-not-event_fits : goal.returns-then-not-event_fits
returns-then-not-event_fits c =
    let a = c.args in
    let f = c.ranges in
    c.refused-then-not-event_fits.ensures
    ∙ post_10 (plan_by a.plan.now) a.state a.event a.arg
    (not-false _ c.if-not-state.false)
    (sym c.own.ensures ∙ c.if-not-own.false)
    (events_is c.requires)
    (sym (rw (to_z-of_z f.event, to_z-of_z f.arg) at c.event_fits.ensures) ∙ c.if-not-event_fits.true)

pub returns-in_default : goal.returns-in_default
returns-in_default c =
    let a = c.args in
    let f = c.ranges in
    c.refused-in_default.ensures
    ∙ post_9 (plan_by a.plan.now) a.state a.event a.arg
    (not-false _ c.if-not-state.false)
    (sym c.own.ensures ∙ c.if-not-own.false)
    (events_is c.requires)
    (sym (rw (to_z-of_z f.event, to_z-of_z f.arg) at c.event_fits.ensures) ∙
    c.if-not-event_fits.false)
    (rw (to_z-of_z f.event, to_z-of_z f.arg) at c.in_default.ensures) refl

pub returns : goal.returns
returns c =
    let a =
    c.args in
    let f =
    c.ranges in
    (rw c.with_queue.ensures at c.done.ensures)
    ∙ post_0 (plan_by a.plan.now) a.state a.event a.arg
    (not-false _
    c.if-not-state.false)
    (sym c.own.ensures ∙
    c.if-not-own.false)
    (events_is c.requires)
    (sym (rw (to_z-of_z f.event, to_z-of_z f.arg) at
    c.event_fits.ensures) ∙ c.if-not-event_fits.false)
    (rw (to_z-of_z f.event, to_z-of_z f.arg) at c.in-Ok.ensures) refl
