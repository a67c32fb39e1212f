-- `replay` makes no call without an event, and examines the plan once. Assumes nothing.
use mathlib.Core.Path.{refl}
use native.Mathlib.Omega.{arith}
use lib.ListN.{length}
use borrow.Author.Rules.{rules}
use Rattle.invariants.specs.Good.{Sized}
use Rattle.meaning.proofs.Refusals.{not_done}
use Rattle.machine.proofs.Gates.{failed, passed}
use Rattle.replaying.proofs.Events.{replay_5, replay_none}
use Rattle.replaying.proofs.Telling.{told_as}
use Rattle.replaying.proofs.replay.Goals.{Start}
use Rattle.replaying.proofs.replay.Goals as goal

-- the arrays of a state have their full size
sized_of : (c : Start) → Sized c.args.state
sized_of c = record { active = search rules; slots = search rules; vars = search rules; items = search rules }

pub returns-then-events-lt-EVENT : goal.returns-then-events-lt-EVENT
returns-then-events-lt-EVENT c =
    let a = c.args in
    told_as (replay_none a.plan.now a.state (length a.trace.now) a.events.now c.if-events-lt-EVENT.true) refl
    c.stopped.ensures

pub returns-in-Err : goal.returns-in-Err
returns-in-Err c =
    let a = c.args in
    told_as (replay_5 a.plan.now a.state (length a.trace.now) (sized_of (goal.at.returns-in-Err c).Start)
    a.events.now (omega (arith, c.if-events-lt-EVENT.false))
    (failed a.plan.now c.in-Err.ensures (not_done _))) refl c.stopped-in-Err.ensures

pub replay_planned-requires : goal.replay_planned-requires
replay_planned-requires c =
    passed c.args.plan.now c.in_default.ensures refl
