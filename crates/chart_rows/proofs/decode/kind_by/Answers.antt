-- `kind_by` tries the letters o and a. Assumes nothing.
use Rattle.std.proofs.Common.{lit<}
use Rattle.meaning.specs.Value.{kind_by}
use Rattle.chart_rows.proofs.Letters.{letter_is, letter_not, no_letter}
use Rattle.chart_rows.proofs.decode.kind_by.Goals as goal

pub returns-in-Ok-eq111 : goal.returns-in-Ok-eq111
unfolding kind_by
returns-in-Ok-eq111 c = rw (letter_is c.ranges.z c.in-Ok-eq111.ensures 111 c.in-Ok-eq111.field-0-test)

pub returns-in-Ok-eq97 : goal.returns-in-Ok-eq97
unfolding kind_by
returns-in-Ok-eq97 c = rw (letter_is c.ranges.z c.in-Ok-eq97.ensures 97 c.in-Ok-eq97.field-0-test)

pub returns-in_default : goal.returns-in_default
unfolding kind_by
returns-in_default c = rw (
  letter_not c.ranges.z c.in_default.ensures 111 c.in_default.field-0-test.0.1,
  letter_not c.ranges.z c.in_default.ensures 97 c.in_default.field-0-test.1,
)

pub returns-in_default-2 : goal.returns-in_default-2
unfolding kind_by
returns-in_default-2 c = rw (
  no_letter c.ranges.z c.try_from.ensures c.in_default.is 111 (lit< tt),
  no_letter c.ranges.z c.try_from.ensures c.in_default.is 97 (lit< tt),
)
