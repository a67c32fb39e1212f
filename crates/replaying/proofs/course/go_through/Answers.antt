-- `go_through` posts and runs event by event. Assumes nothing.
use mathlib.Core.Path.{◌≡◌}
use Prim.Native.Nat.{◌+◌, ◌*◌, ◌<◌}
use native.Mathlib.Omega.{arith}
use lib.IntN.{pos}
use lib.ListN.{get_or, length}
use borrow.Author.Rules.{rules}
use mir.Syntax.{w32}
use mir.Val.{of_z, to_z}
use Rattle.numbers.proofs.Laws.{back32}
use Rattle.promises.specs.Replay.{items_of}
use Rattle.queue.specs.Queue.{item, no_item}
use Rattle.plan_invariants.proofs.Well.{well}
use Rattle.replaying.proofs.Coursing.{coursing_begin, coursing_end, coursing_free, coursing_more, coursing_stop}
use Rattle.replaying.proofs.Events.{event_at, how_many}
use Rattle.replaying.proofs.course.go_through.Goals.{After-post_and_run}
use Rattle.replaying.proofs.course.go_through.Goals as goal

pub loop-done-init : goal.loop-done-init
loop-done-init c = coursing_begin c.requires

-- the event that is posted and run is the next one
next-there : (c : After-post_and_run) → c.loop-done.done < length (items_of c.args.events.now)
next-there c = let n = how_many c.args.events.now in omega (arith, n, c.loop-done-test.true)

next_is : (c : After-post_and_run) → get_or (items_of c.args.events.now) c.loop-done.done no_item
    ≡ item (to_z w32 (of_z w32 (get_or c.args.events.now (2 * c.loop-done.done) (pos 0))))
    (to_z w32 (of_z w32 (get_or c.args.events.now (2 * c.loop-done.done + 1) (pos 0))))
next_is c =
    event_at c.args.events.now c.loop-done.done _ _ (next-there c) (back32 _ (search rules)) (back32 _ (search rules))

pub post_and_run-requires : goal.post_and_run-requires
post_and_run-requires c = coursing_free (well c.args.plan.now.numbers.now c.args.plan.now.examined.formed) c.loop-done.invariant

pub returns-in-Err : goal.returns-in-Err
returns-in-Err c =
    let q = (goal.at.returns-in-Err c).After-post_and_run in
    let p = c.args.plan.now in
    coursing_stop (well p.numbers.now p.examined.formed) c.loop-done.invariant (next-there q) (next_is q) _ _ c.in-Err.why
    c.in-Err.ensures

pub loop-done-preserved : goal.loop-done-preserved
loop-done-preserved c =
    let q = (goal.at.loop-done-preserved c).After-post_and_run in
    let p = c.args.plan.now in
    coursing_more (well p.numbers.now p.examined.formed) c.loop-done.invariant (next-there q) (next_is q) _ _ c.in-Ok.ensures

pub returns : goal.returns
returns c =
    let n = how_many c.args.events.now in
    coursing_end (well c.args.plan.now.numbers.now c.args.plan.now.examined.formed) c.loop-done.invariant
    (omega (arith, n, c.loop-done-test.false, c.loop-done.auto.done-end))
