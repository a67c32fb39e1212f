-- `trigger_at` reads the second number of its row. Assumes nothing.
use mathlib.Core.Path.{◌∙◌}
use native.Mathlib.Omega.{arith}
use Rattle.numbers.specs.Reference.{ref}
use Rattle.chart_rows.proofs.Said.{said_of}
use Rattle.chart_rows.proofs.Rows.{transitions_most, trigger_said}
use Rattle.choice.proofs.trigger_at.Goals as goal

pub overflow_mul-t : goal.overflow_mul-t
overflow_mul-t c = omega (arith, transitions_most c.args.chart.now)

pub overflow_add-t : goal.overflow_add-t
overflow_add-t c = omega (arith, transitions_most c.args.chart.now)

pub overflow_add-t-2 : goal.overflow_add-t-2
overflow_add-t-2 c = omega (arith, transitions_most c.args.chart.now)

pub returns : goal.returns
returns c =
    said_of ref c.number_at.type_inv c.number_at.ensures c.reference.ensures
    ∙ trigger_said c.args.chart.now c.args.t c.requires
