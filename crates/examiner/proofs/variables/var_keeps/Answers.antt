-- `var_keeps` tests R5, then the range of each number. Assumes nothing.
use Rattle.std.proofs.Common.{rules}
use Rattle.meaning.specs.Value.{VAR_ROW}
use Rattle.meaning.specs.WellFormed.{SIX}
use Rattle.plan_rows.specs.Rows.{row}
use Rattle.examiner.proofs.RowTests.{var_read}
use Rattle.examiner.proofs.variables.var_keeps.Goals as goal

pub returns-then-in_range-2 : goal.returns-then-in_range-2
returns-then-in_range-2 c =
    rw (var_read c.var_row-var.result (row VAR_ROW SIX c.args.v c.args.plan.now) c.var_row-var.ensures) (search rules)

pub returns-else-in_range-2 : goal.returns-else-in_range-2
returns-else-in_range-2 c =
    rw (var_read c.var_row-var.result (row VAR_ROW SIX c.args.v c.args.plan.now) c.var_row-var.ensures) (search rules)
