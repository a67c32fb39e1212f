-- `act_by` tries the letters s, a, k and q. Assumes nothing.
use mathlib.Core.Path.{refl}
use Rattle.std.proofs.Common.{lit<}
use mir.Facts.{to_z-of_z}
use Rattle.numbers.specs.Reference.{ref}
use Rattle.meaning.specs.Value.{act_by}
use Rattle.chart_rows.proofs.Letters.{letter_is, letter_not, no_letter}
use Rattle.chart_rows.proofs.Said.{said}
use Rattle.chart_rows.proofs.decode.act_by.Goals as goal

pub returns-in-Ok-eq115 : goal.returns-in-Ok-eq115
unfolding act_by
returns-in-Ok-eq115 c = rw (
  letter_is c.ranges.a c.in-Ok-eq115.ensures 115 c.in-Ok-eq115.field-0-test,
  said ref c.ranges.x c.reference.ensures refl,
  to_z-of_z c.ranges.y,
)

pub returns-in-Ok-eq97 : goal.returns-in-Ok-eq97
unfolding act_by
returns-in-Ok-eq97 c = rw (
  letter_is c.ranges.a c.in-Ok-eq97.ensures 97 c.in-Ok-eq97.field-0-test,
  said ref c.ranges.x c.reference-in-Ok-eq97.ensures refl,
  to_z-of_z c.ranges.y,
)

pub returns-in-Ok-eq107 : goal.returns-in-Ok-eq107
unfolding act_by
returns-in-Ok-eq107 c = rw (
  letter_is c.ranges.a c.in-Ok-eq107.ensures 107 c.in-Ok-eq107.field-0-test,
  said ref c.ranges.x c.reference-in-Ok-eq107.ensures refl,
)

pub returns-in-Ok-eq113 : goal.returns-in-Ok-eq113
unfolding act_by
returns-in-Ok-eq113 c = rw (
  letter_is c.ranges.a c.in-Ok-eq113.ensures 113 c.in-Ok-eq113.field-0-test,
  said ref c.ranges.x c.reference-in-Ok-eq113.ensures refl,
  to_z-of_z c.ranges.y,
)

pub returns-in_default : goal.returns-in_default
unfolding act_by
returns-in_default c = rw (
  letter_not c.ranges.a c.in_default.ensures 115 c.in_default.field-0-test.0.0.0.1,
  letter_not c.ranges.a c.in_default.ensures 97 c.in_default.field-0-test.0.0.1,
  letter_not c.ranges.a c.in_default.ensures 107 c.in_default.field-0-test.0.1,
  letter_not c.ranges.a c.in_default.ensures 113 c.in_default.field-0-test.1,
  to_z-of_z c.ranges.x,
)

pub returns-in_default-2 : goal.returns-in_default-2
unfolding act_by
returns-in_default-2 c = rw (
  no_letter c.ranges.a c.try_from.ensures c.in_default.is 115 (lit< tt),
  no_letter c.ranges.a c.try_from.ensures c.in_default.is 97 (lit< tt),
  no_letter c.ranges.a c.try_from.ensures c.in_default.is 107 (lit< tt),
  no_letter c.ranges.a c.try_from.ensures c.in_default.is 113 (lit< tt),
  to_z-of_z c.ranges.x,
)
