-- `between` is the test of 01 for a range. Assumes nothing.
use mir.Facts.{to_z-of_z}
use Rattle.numbers.specs.Range.{within}
use Rattle.numbers.proofs.between.Goals as goal

pub returns-then-low-x : goal.returns-then-low-x
unfolding within
returns-then-low-x c =
    let low = to_z-of_z c.ranges.low in
    let x = to_z-of_z c.ranges.x in
    rw (x, to_z-of_z c.ranges.high, rw (low, x) at c.if-low-x.true)

pub returns-else-low-x : goal.returns-else-low-x
unfolding within
returns-else-low-x c =
    let low = to_z-of_z c.ranges.low in
    let x = to_z-of_z c.ranges.x in
    rw (low, x, rw (low, x) at c.if-low-x.false)
