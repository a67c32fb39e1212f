-- `var_row` reads the three numbers of its row. Assumes nothing.
use mathlib.Core.Path.{sym, ◌∙◌}
use native.Mathlib.Omega.{arith}
use Prim.Native.Nat.{◌+◌, ◌*◌}
use Rattle.numbers.proofs.Laws.{back32}
use Rattle.meaning.specs.Value.{chart_of, VARS_AT, VAR_ROW}
use Rattle.chart_rows.proofs.Rows.{vars_most, var_at, var_none, var_said}
use Rattle.chart_rows.proofs.var_row.Goals as goal

pub overflow_mul-at : goal.overflow_mul-at
overflow_mul-at c = omega (arith, vars_most c.args.chart.now)

pub overflow_add-at : goal.overflow_add-at
overflow_add-at c = omega (arith, vars_most c.args.chart.now)

pub overflow_add-at-then-v-var_count : goal.overflow_add-at-then-v-var_count
overflow_add-at-then-v-var_count c = omega (arith, vars_most c.args.chart.now)

pub overflow_add-at-then-v-var_count-2 : goal.overflow_add-at-then-v-var_count-2
overflow_add-at-then-v-var_count-2 c = omega (arith, vars_most c.args.chart.now)

pub returns-then-v-var_count : goal.returns-then-v-var_count
returns-then-v-var_count c =
    let a = c.args in
    let x = c.number_at in
    let y = c.number_at-then-v-var_count in
    let z = c.number_at-then-v-var_count-2 in
    var_said a.chart.now (VARS_AT + a.v * VAR_ROW) (back32 x.result x.type_inv ∙ x.ensures) (back32 y.result y.type_inv ∙ y.ensures)
    (back32 z.result z.type_inv ∙ z.ensures)
    ∙ sym (var_at a.chart.now a.v (omega arith))

pub returns-else-v-var_count : goal.returns-else-v-var_count
returns-else-v-var_count c = sym (var_none (chart_of c.args.chart.now) c.args.v (omega arith))
