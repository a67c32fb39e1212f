-- `compare` goes by the sign. Assumes nothing.
use mathlib.Core.Path.{◌∙◌}
use mir.Facts.{to_z-of_z}
use Rattle.numbers.proofs.Laws.{test_bits}
use Rattle.meaning.specs.Reaction.{compare_by}
use Rattle.choice.proofs.compare.Goals as goal

pub returns-in-Equal : goal.returns-in-Equal
unfolding compare_by
returns-in-Equal c = test_bits c.args.x c.args.y c.ranges.x.sfits c.ranges.y.sfits ∙ rw c.in-Equal.is

pub returns-in-Less : goal.returns-in-Less
unfolding compare_by
returns-in-Less c = rw (to_z-of_z c.ranges.x, to_z-of_z c.ranges.y, c.in-Less.is)

pub returns-in-More : goal.returns-in-More
unfolding compare_by
returns-in-More c = rw (to_z-of_z c.ranges.x, to_z-of_z c.ranges.y, c.in-More.is)
