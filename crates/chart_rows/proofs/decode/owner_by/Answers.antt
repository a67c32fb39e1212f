-- `owner_by` tries the letters e, x and d. Assumes nothing.
use mathlib.Core.Path.{refl}
use Rattle.std.proofs.Common.{lit<}
use Rattle.numbers.specs.Reference.{ref}
use Rattle.meaning.specs.Value.{owner_by}
use Rattle.chart_rows.proofs.Letters.{letter_is, letter_not, no_letter}
use Rattle.chart_rows.proofs.Said.{said}
use Rattle.chart_rows.proofs.decode.owner_by.Goals as goal

pub returns-in-Ok-eq101 : goal.returns-in-Ok-eq101
unfolding owner_by
returns-in-Ok-eq101 c = rw (
  letter_is c.ranges.k c.in-Ok-eq101.ensures 101 c.in-Ok-eq101.field-0-test,
  said ref c.ranges.n c.reference-n.ensures refl,
)

pub returns-in-Ok-eq120 : goal.returns-in-Ok-eq120
unfolding owner_by
returns-in-Ok-eq120 c = rw (
  letter_is c.ranges.k c.in-Ok-eq120.ensures 120 c.in-Ok-eq120.field-0-test,
  said ref c.ranges.n c.reference-n.ensures refl,
)

pub returns-in-Ok-eq100 : goal.returns-in-Ok-eq100
unfolding owner_by
returns-in-Ok-eq100 c = rw (
  letter_is c.ranges.k c.in-Ok-eq100.ensures 100 c.in-Ok-eq100.field-0-test,
  said ref c.ranges.n c.reference-n.ensures refl,
)

pub returns-in_default : goal.returns-in_default
unfolding owner_by
returns-in_default c = rw (
  letter_not c.ranges.k c.in_default.ensures 101 c.in_default.field-0-test.0.0.1,
  letter_not c.ranges.k c.in_default.ensures 120 c.in_default.field-0-test.0.1,
  letter_not c.ranges.k c.in_default.ensures 100 c.in_default.field-0-test.1,
  said ref c.ranges.n c.reference-n.ensures refl,
)

pub returns-in_default-2 : goal.returns-in_default-2
unfolding owner_by
returns-in_default-2 c = rw (
  no_letter c.ranges.k c.try_from.ensures c.in_default.is 101 (lit< tt),
  no_letter c.ranges.k c.try_from.ensures c.in_default.is 120 (lit< tt),
  no_letter c.ranges.k c.try_from.ensures c.in_default.is 100 (lit< tt),
  said ref c.ranges.n c.reference-n.ensures refl,
)
