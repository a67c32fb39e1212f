-- `replay_examined` tries 7 and 6, goes through the events, and ends as they went. Assumes nothing.
use mathlib.Core.Path.{refl, sym, ap, ◌∙◌}
use lib.ListN.{length, take}
use borrow.Author.Tests.{not-true, not-false}
use borrow.Author.Rules.{rules}
use Rattle.invariants.specs.Good.{Sized}
use Rattle.meaning.specs.WellFormed.{plan_by}
use Rattle.promises.specs.Replay.{course, items_of}
use Rattle.replaying.specs.Course.{Starts}
use Rattle.replaying.proofs.Events.{how_many}
use Rattle.replaying.proofs.Telling.{broken_here, ended_told, once_6, once_7, told_as}
use Rattle.replaying.proofs.replay_examined.Goals.{Else-not-own, Start}
use Rattle.replaying.proofs.replay_examined.Goals as goal

-- the arrays of a state have their full size
sized_of : (c : Start) → Sized c.args.state
sized_of c = record { active = search rules; slots = search rules; vars = search rules; items = search rules }

pub returns-then-not-state : goal.returns-then-not-state
returns-then-not-state c =
    let a = c.args in
    told_as (once_7 (plan_by a.plan.now) a.state (items_of a.events.now) (length a.trace.now)
    (not-true _ c.if-not-state.true)) refl c.stopped.ensures

pub returns-then-not-own : goal.returns-then-not-own
returns-then-not-own c =
    let a = c.args in
    told_as (once_6 (plan_by a.plan.now) a.state (items_of a.events.now) (length a.trace.now)
    (not-false _ c.if-not-state.false) (sym c.own.ensures ∙ c.if-not-own.true)) refl
    c.stopped-then-not-own.ensures

-- the tests are passed
ready : (c : Else-not-own) (s : Sized c.args.state) → Starts (plan_by c.args.plan.now) c.args.state
ready c s = record {
  sized = s;
  started = not-false _ c.if-not-state.false;
  own = sym c.own.ensures ∙ c.if-not-own.false;
}

pub as_posted-requires : goal.as_posted-requires
as_posted-requires c =
    let s = (goal.at.as_posted-requires c).Start in
    let w = rw (c.of-planned.ensures.numbers, c.in-AtRun.is) at c.in-Err.ensures in
    rw (c.of-planned.ensures.numbers, c.number-in-AtRun.ensures) (
      ready (goal.at.as_posted-requires c).Else-not-own (sized_of s),
      broken_here c.args.trace.now c.go_through.new.trace w.2 w.0,
    )

pub returns-in-Ok : goal.returns-in-Ok
returns-in-Ok c =
    let s = (goal.at.returns-in-Ok c).Start in
    let w = rw c.of-planned.ensures.numbers at c.in-Ok.ensures in
    let n = how_many c.args.events.now in
    ended_told (ready (goal.at.returns-in-Ok c).Else-not-own (sized_of s)) w.2 _
    (w.0 ∙ ap (λ d. course d 0 c.go_through.new.widget (take c.in-Ok.at c.go_through.new.trace)) n) c.told.ensures

pub returns-in-AtPost : goal.returns-in-AtPost
returns-in-AtPost c =
    let s = (goal.at.returns-in-AtPost c).Start in
    let w = rw (c.of-planned.ensures.numbers, c.in-AtPost.is) at c.in-Err.ensures in
    ended_told (ready (goal.at.returns-in-AtPost c).Else-not-own (sized_of s)) w.2 _ w.0
    (rw c.number.ensures at c.told-in-AtPost.ensures)
