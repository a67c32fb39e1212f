-- `trans_row` reads the seven numbers of its row. Assumes nothing.
use mathlib.Core.Path.{sym, ◌∙◌}
use native.Mathlib.Omega.{arith}
use Prim.Native.Nat.{◌+◌, ◌*◌}
use Rattle.numbers.specs.Reference.{ref}
use Rattle.meaning.specs.Value.{chart_of, guard_by, target_by, TRANSITIONS_AT, TRANS_ROW}
use Rattle.chart_rows.proofs.Said.{said_of, said_of2, said_of3}
use Rattle.chart_rows.proofs.Rows.{transitions_most, trans_at, trans_none, trans_said}
use Rattle.chart_rows.proofs.trans_row.Goals as goal

pub overflow_mul-at : goal.overflow_mul-at
overflow_mul-at c = omega (arith, transitions_most c.args.chart.now)

pub overflow_add-at : goal.overflow_add-at
overflow_add-at c = omega (arith, transitions_most c.args.chart.now)

pub overflow_add-at-then-t-transition_count : goal.overflow_add-at-then-t-transition_count
overflow_add-at-then-t-transition_count c = omega (arith, transitions_most c.args.chart.now)

pub overflow_add-at-then-t-transition_count-2 : goal.overflow_add-at-then-t-transition_count-2
overflow_add-at-then-t-transition_count-2 c = omega (arith, transitions_most c.args.chart.now)

pub overflow_add-at-then-t-transition_count-3 : goal.overflow_add-at-then-t-transition_count-3
overflow_add-at-then-t-transition_count-3 c = omega (arith, transitions_most c.args.chart.now)

pub overflow_add-at-then-t-transition_count-4 : goal.overflow_add-at-then-t-transition_count-4
overflow_add-at-then-t-transition_count-4 c = omega (arith, transitions_most c.args.chart.now)

pub overflow_add-at-then-t-transition_count-5 : goal.overflow_add-at-then-t-transition_count-5
overflow_add-at-then-t-transition_count-5 c = omega (arith, transitions_most c.args.chart.now)

pub overflow_add-at-then-t-transition_count-6 : goal.overflow_add-at-then-t-transition_count-6
overflow_add-at-then-t-transition_count-6 c = omega (arith, transitions_most c.args.chart.now)

pub returns-then-t-transition_count : goal.returns-then-t-transition_count
returns-then-t-transition_count c =
    let s = c.args in
    let n1 = c.number_at in
    let n2 = c.number_at-then-t-transition_count in
    let n3 = c.number_at-then-t-transition_count-2 in
    let n4 = c.number_at-then-t-transition_count-3 in
    let n5 = c.number_at-then-t-transition_count-4 in
    let n6 = c.number_at-then-t-transition_count-5 in
    let n7 = c.number_at-then-t-transition_count-6 in
    trans_said s.chart.now (TRANSITIONS_AT + s.t * TRANS_ROW)
    (said_of ref n1.type_inv n1.ensures c.reference.ensures)
    (said_of ref n2.type_inv n2.ensures c.reference-then-t-transition_count.ensures)
    (said_of3 guard_by n3.type_inv n3.ensures n4.type_inv n4.ensures n5.type_inv n5.ensures c.guard_by.ensures)
    (said_of2 target_by n6.type_inv n6.ensures n7.type_inv n7.ensures c.target_by.ensures)
    ∙ sym (trans_at s.chart.now s.t (omega arith))

pub returns-else-t-transition_count : goal.returns-else-t-transition_count
returns-else-t-transition_count c = sym (trans_none (chart_of c.args.chart.now) c.args.t (omega arith))
