-- `action_row` reads the five numbers of its row. Assumes nothing.
use mathlib.Core.Path.{sym, ◌∙◌}
use native.Mathlib.Omega.{arith}
use Prim.Native.Nat.{◌+◌, ◌*◌}
use Rattle.meaning.specs.Value.{chart_of, owner_by, act_by, ACTIONS_AT, ACT_ROW}
use Rattle.chart_rows.proofs.Said.{said_of2, said_of3}
use Rattle.chart_rows.proofs.Rows.{actions_most, action_at, action_none, action_said}
use Rattle.chart_rows.proofs.action_row.Goals as goal

pub overflow_mul-at : goal.overflow_mul-at
overflow_mul-at c = omega (arith, actions_most c.args.chart.now)

pub overflow_add-at : goal.overflow_add-at
overflow_add-at c = omega (arith, actions_most c.args.chart.now)

pub overflow_add-at-then-i-action_count : goal.overflow_add-at-then-i-action_count
overflow_add-at-then-i-action_count c = omega (arith, actions_most c.args.chart.now)

pub overflow_add-at-then-i-action_count-2 : goal.overflow_add-at-then-i-action_count-2
overflow_add-at-then-i-action_count-2 c = omega (arith, actions_most c.args.chart.now)

pub overflow_add-at-then-i-action_count-3 : goal.overflow_add-at-then-i-action_count-3
overflow_add-at-then-i-action_count-3 c = omega (arith, actions_most c.args.chart.now)

pub overflow_add-at-then-i-action_count-4 : goal.overflow_add-at-then-i-action_count-4
overflow_add-at-then-i-action_count-4 c = omega (arith, actions_most c.args.chart.now)

pub returns-then-i-action_count : goal.returns-then-i-action_count
returns-then-i-action_count c =
    let s = c.args in
    let n1 = c.number_at in
    let n2 = c.number_at-then-i-action_count in
    let n3 = c.number_at-then-i-action_count-2 in
    let n4 = c.number_at-then-i-action_count-3 in
    let n5 = c.number_at-then-i-action_count-4 in
    action_said s.chart.now (ACTIONS_AT + s.i * ACT_ROW)
    (said_of2 owner_by n1.type_inv n1.ensures n2.type_inv n2.ensures c.owner_by.ensures)
    (said_of3 act_by n3.type_inv n3.ensures n4.type_inv n4.ensures n5.type_inv n5.ensures c.act_by.ensures)
    ∙ sym (action_at s.chart.now s.i (omega arith))

pub returns-else-i-action_count : goal.returns-else-i-action_count
returns-else-i-action_count c = sym (action_none (chart_of c.args.chart.now) c.args.i (omega arith))
