-- `one_of` compares the reference with the count. Assumes nothing.
use mathlib.Core.Path.{ap}
use lib.Dec.{ltb}
use Rattle.numbers.specs.Reference.{ref}
use Rattle.chart_rows.proofs.Said.{said_own}
use Rattle.examiner.proofs.fits.one_of.Goals as goal

pub returns : goal.returns
returns c = ap (λ m. ltb m c.args.n) (said_own ref c.ranges.z c.reference.ensures)
