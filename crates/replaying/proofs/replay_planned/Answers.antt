-- `replay_planned` makes no call without an event. Assumes nothing.
use mathlib.Core.Path.{refl}
use native.Mathlib.Omega.{arith}
use lib.ListN.{length}
use borrow.Author.Rules.{rules}
use Rattle.invariants.specs.Good.{Sized}
use Rattle.replaying.proofs.Events.{replay_is, replay_none}
use Rattle.replaying.proofs.Telling.{told_as}
use Rattle.replaying.proofs.replay_planned.Goals.{Start}
use Rattle.replaying.proofs.replay_planned.Goals as goal

-- the arrays of a state have their full size
sized_of : (c : Start) → Sized c.args.state
sized_of c = record { active = search rules; slots = search rules; vars = search rules; items = search rules }

pub returns-then-events-lt-EVENT : goal.returns-then-events-lt-EVENT
returns-then-events-lt-EVENT c =
    let a = c.args in
    told_as (replay_none a.plan.now a.state (length a.trace.now) a.events.now c.if-events-lt-EVENT.true) refl
    c.stopped.ensures

pub replay_examined-requires : goal.replay_examined-requires
replay_examined-requires c = record { formed = c.requires; counted = c.counts.ensures }

pub returns : goal.returns
returns c =
    let a = c.args in
    told_as (replay_is a.plan.now a.state (length a.trace.now) (sized_of (goal.at.returns c).Start) a.events.now
    (omega (arith, c.if-events-lt-EVENT.false))
    c.requires) refl c.replay_examined.ensures
