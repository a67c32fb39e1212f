-- `add_held` holds the exact sum. Assumes nothing.
use Rattle.numbers.proofs.Laws.{back32, back64}
use mir.Facts.{to_z-of_z}
use Rattle.numbers.proofs.add_held.Goals as goal

pub returns : goal.returns
returns c =
    let a = c.before.before in
    rw (
      back32 c.hold.result c.hold.type_inv,
      c.hold.ensures,
      back64 c.sum.result c.sum.type_inv,
      c.sum.ensures,
      to_z-of_z a.ranges.v,
      to_z-of_z a.ranges.c,
      to_z-of_z a.ranges.low,
      to_z-of_z a.ranges.high,
    )
