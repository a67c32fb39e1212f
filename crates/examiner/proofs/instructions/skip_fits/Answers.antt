-- `skip_fits` is the test for a count. Assumes nothing.
use Rattle.meaning.specs.Value.{count_fits}
use Rattle.chart_rows.proofs.Said.{said_own}
use Rattle.examiner.proofs.instructions.skip_fits.Goals as goal

pub returns : goal.returns
returns c = said_own (count_fits 0 c.args.left) c.ranges.z c.count_fits.ensures
