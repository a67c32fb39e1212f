-- `in_range` is `between` at the ends of 01's range. Assumes nothing.
use mathlib.Core.Path.{◌∙◌}
use mir.Facts.{to_z-of_z}
use Rattle.numbers.specs.Range.{in_range}
use Rattle.numbers.proofs.in_range.Goals as goal

pub returns : goal.returns
unfolding in_range
returns c = c.between.ensures ∙ rw (to_z-of_z c.ranges.x)
