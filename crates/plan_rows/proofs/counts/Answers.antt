-- `counts` reads the header. Assumes nothing.
use Rattle.numbers.specs.Reference.{ref}
use Rattle.chart_rows.proofs.Said.{said_of}
use Rattle.plan_rows.proofs.Rows.{counts_said}
use Rattle.plan_rows.proofs.counts.Goals as goal

pub returns : goal.returns
returns c =
    counts_said c.args.plan.now c.count_at.ensures
    c.count_at-2.ensures c.count_at-3.ensures
    c.count_at-4.ensures c.count_at-5.ensures
    (said_of ref c.number_at.type_inv c.number_at.ensures c.reference.ensures)
