-- `feed_all` leaves the widget and the line as the whole part does, with room for one more report. The measure is what is left of the part:
-- each walk goes on, since there is room. Assumes nothing.
use mathlib.Core.Path.{◌≡◌}
use native.Mathlib.Omega.{arith}
use lib.ListN.{length}
use borrow.Author.Rules.{rules}
use Rattle.session.proofs.WalkLaws.{walks_on}
use Rattle.trace.proofs.Feeding.{feeding_begins, feeding_on, feeding_done}
use Rattle.trace.proofs.feed_all.Goals as goal

pub loop-i-init : goal.loop-i-init
loop-i-init g c = (feeding_begins _ _ _, search rules, search rules, search rules)

pub with_room-requires : goal.with_room-requires
with_room-requires g c =
    let w = c.walk-walked.ensures.whole (omega (arith, c.loop-i.invariant.2)) in
    let k : length c.walk-walked.new.out ≡ length c.loop-i.out = search rules in
    (omega arith, omega (arith, c.loop-i.invariant.2))

pub loop-i-preserved : goal.loop-i-preserved
loop-i-preserved g c =
    (feeding_on _ _ _ _ _ c.loop-i.invariant.0 _ _ _ _ c.walk-walked.ensures, search rules, search rules, search rules)

pub loop-i-smaller : goal.loop-i-smaller
loop-i-smaller g c =
    let on = walks_on _ _ _ _ _ _ _ _ c.walk-walked.ensures c.loop-i-test.true c.loop-i.invariant.2 in
    let more = c.loop-i-test.true in
    omega arith

pub returns-clause-ok : goal.returns-clause-ok
returns-clause-ok g c = record { under = feeding_done _ _ _ _ _ c.loop-i.invariant.0 c.loop-i-test.false; room = c.loop-i.invariant.2 }
