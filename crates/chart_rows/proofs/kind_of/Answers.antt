-- `kind_of` reads the field of its row. Assumes nothing.
use mathlib.Core.Path.{sym, ◌∙◌}
use native.Mathlib.Omega.{arith}
use Rattle.meaning.specs.Value.{chart_of, kind_by}
use Rattle.chart_rows.proofs.Said.{said_of}
use Rattle.chart_rows.proofs.Rows.{states_most, kind_at, kind_none}
use Rattle.chart_rows.proofs.kind_of.Goals as goal

pub overflow_mul-s : goal.overflow_mul-s
overflow_mul-s c = omega (arith, states_most c.args.chart.now)

pub overflow_add-s : goal.overflow_add-s
overflow_add-s c = omega (arith, states_most c.args.chart.now)

pub overflow_add-s-then-s-state_count : goal.overflow_add-s-then-s-state_count
overflow_add-s-then-s-state_count c = omega (arith, states_most c.args.chart.now)

pub returns-then-s-state_count : goal.returns-then-s-state_count
returns-then-s-state_count c = said_of kind_by c.number_at.type_inv c.number_at.ensures c.kind_by.ensures
    ∙ sym (kind_at c.args.chart.now c.args.s (omega arith))

pub returns-else-s-state_count : goal.returns-else-s-state_count
returns-else-s-state_count c = sym (kind_none (chart_of c.args.chart.now) c.args.s (omega arith))
