-- `head_fits` tests number by number. Assumes nothing.
use Rattle.std.proofs.Common.{rules}
use Rattle.examiner.proofs.RowTests.{head_read}
use Rattle.examiner.proofs.heads.head_fits.Goals as goal

pub returns-then-span_fits : goal.returns-then-span_fits
returns-then-span_fits c = rw (head_read c.args.k c.args.plan.now c.args.at) (search rules)

pub returns-else-span_fits : goal.returns-else-span_fits
returns-else-span_fits c = rw (head_read c.args.k c.args.plan.now c.args.at) (search rules)
