-- `as_posted` does the events before the refused run once more, and posts its event. Assumes nothing.
use Prim.Native.Nat.{◌+◌, ◌*◌, ◌<◌}
use native.Mathlib.Omega.{arith}
use lib.ListN.{length}
use lib.Seq.{length-take-le}
use Rattle.numbers.proofs.Laws.{back32}
use borrow.Author.Rules.{rules}
use Rattle.replaying.proofs.Events.{event_at, first_of, places_few}
use Rattle.replaying.proofs.Telling.{broken_told}
use Rattle.replaying.proofs.as_posted.Goals.{Start}
use Rattle.replaying.proofs.as_posted.Goals as goal

-- the event whose run was refused is there
there : (c : Start) → 2 * c.args.done + 1 < length c.args.events.now
there c = let h = places_few c.args.events.now in omega (arith, h, c.requires.1.within)

pub go_through-requires : goal.go_through-requires
go_through-requires c = c.requires.0

pub returns : goal.returns
returns c =
    broken_told c.requires.0 c.args.trace.now c.requires.1 c.go_through.result _ _
    (rw (first_of c.args.done c.args.events.now) at c.go_through.ensures)
    (event_at c.args.events.now c.args.done _ _ c.requires.1.within (back32 _ (search rules)) (back32 _ (search rules)))
    c.with_event-widget.ensures c.told.ensures

pub overflow_mul-done : goal.overflow_mul-done
overflow_mul-done c = let h = there (goal.at.overflow_mul-done c).Start in omega (arith, h)

pub slice_bounds-go_through-end : goal.slice_bounds-go_through-end
slice_bounds-go_through-end c =
    let h = there (goal.at.slice_bounds-go_through-end c).Start in
    let e = length-take-le (2 * c.args.done) c.args.events.now (omega (arith, h)) in
    omega (arith, h, e)

pub overflow_mul-event : goal.overflow_mul-event
overflow_mul-event c = let h = there (goal.at.overflow_mul-event c).Start in omega (arith, h)

pub offset_bounds-events-done : goal.offset_bounds-events-done
offset_bounds-events-done c = let h = there (goal.at.offset_bounds-events-done c).Start in omega (arith, h)

pub bounds-events-done : goal.bounds-events-done
bounds-events-done c = let h = there (goal.at.bounds-events-done c).Start in omega (arith, h)

pub overflow_mul-arg : goal.overflow_mul-arg
overflow_mul-arg c = let h = there (goal.at.overflow_mul-arg c).Start in omega (arith, h)

pub overflow_add-arg : goal.overflow_add-arg
overflow_add-arg c = let h = there (goal.at.overflow_add-arg c).Start in omega (arith, h)

pub offset_bounds-events-done-2 : goal.offset_bounds-events-done-2
offset_bounds-events-done-2 c = let h = there (goal.at.offset_bounds-events-done-2 c).Start in omega (arith, h)

pub bounds-events-done-2 : goal.bounds-events-done-2
bounds-events-done-2 c = let h = there (goal.at.bounds-events-done-2 c).Start in omega (arith, h)
