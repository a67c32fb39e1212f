-- `guard_by` tries the signs =, < and >. Assumes nothing.
use mathlib.Core.Path.{refl}
use Rattle.std.proofs.Common.{lit<}
use mir.Facts.{to_z-of_z}
use Rattle.numbers.specs.Reference.{ref}
use Rattle.meaning.specs.Value.{guard_by}
use Rattle.chart_rows.proofs.Letters.{letter_is, letter_not, no_letter}
use Rattle.chart_rows.proofs.Said.{said}
use Rattle.chart_rows.proofs.decode.guard_by.Goals as goal

pub returns-in-Ok-eq61 : goal.returns-in-Ok-eq61
unfolding guard_by
returns-in-Ok-eq61 c = rw (
  letter_is c.ranges.g c.in-Ok-eq61.ensures 61 c.in-Ok-eq61.field-0-test,
  said ref c.ranges.v c.reference.ensures refl,
  to_z-of_z c.ranges.x,
)

pub returns-in-Ok-eq60 : goal.returns-in-Ok-eq60
unfolding guard_by
returns-in-Ok-eq60 c = rw (
  letter_is c.ranges.g c.in-Ok-eq60.ensures 60 c.in-Ok-eq60.field-0-test,
  said ref c.ranges.v c.reference-in-Ok-eq60.ensures refl,
  to_z-of_z c.ranges.x,
)

pub returns-in-Ok-eq62 : goal.returns-in-Ok-eq62
unfolding guard_by
returns-in-Ok-eq62 c = rw (
  letter_is c.ranges.g c.in-Ok-eq62.ensures 62 c.in-Ok-eq62.field-0-test,
  said ref c.ranges.v c.reference-in-Ok-eq62.ensures refl,
  to_z-of_z c.ranges.x,
)

pub returns-in_default : goal.returns-in_default
unfolding guard_by
returns-in_default c = rw (
  letter_not c.ranges.g c.in_default.ensures 61 c.in_default.field-0-test.0.0.1,
  letter_not c.ranges.g c.in_default.ensures 60 c.in_default.field-0-test.0.1,
  letter_not c.ranges.g c.in_default.ensures 62 c.in_default.field-0-test.1,
)

pub returns-in_default-2 : goal.returns-in_default-2
unfolding guard_by
returns-in_default-2 c = rw (
  no_letter c.ranges.g c.try_from.ensures c.in_default.is 61 (lit< tt),
  no_letter c.ranges.g c.try_from.ensures c.in_default.is 60 (lit< tt),
  no_letter c.ranges.g c.try_from.ensures c.in_default.is 62 (lit< tt),
)
