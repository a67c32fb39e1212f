-- `trans_statable` tests number by number. Assumes nothing.
use Prim.Native.Nat.{◌+◌, ◌*◌}
use Rattle.numbers.specs.Range.{in_range}
use Rattle.meaning.specs.Value.{TRANSITIONS_AT, TRANS_ROW}
use Rattle.rules.specs.Clauses.{guard_statable, target_statable}
use Rattle.chart_rows.proofs.Said.{said_of, said_of2, said_of3}
use Rattle.rules.proofs.Tests.{both, fails}
use Rattle.rules.proofs.Letters.{trans_read}
use Rattle.rules.proofs.value.trans_statable.Goals as goal

pub returns-then-guard_statable : goal.returns-then-guard_statable
returns-then-guard_statable c =
    let a = c.args in
    let x = c.number_at in
    let y = c.number_at-then-in_range in
    let v = c.number_at-then-in_range-2 in
    let g = c.number_at-then-in_range-2-2 in
    let k = c.number_at-then-in_range-2-3 in
    let h = c.number_at-then-guard_statable in
    let s = c.number_at-then-guard_statable-2 in
    rw (trans_read a.chart.now (TRANSITIONS_AT + a.i * TRANS_ROW) a.i)
    (both (said_of in_range x.type_inv x.ensures c.in_range.ensures) c.if-in_range.true
    (both (said_of in_range y.type_inv y.ensures c.in_range-then-in_range.ensures) c.if-in_range-2.true
    (both (said_of3 guard_statable v.type_inv v.ensures g.type_inv g.ensures
    k.type_inv k.ensures c.guard_statable.ensures) c.if-guard_statable.true
    (said_of2 target_statable h.type_inv h.ensures s.type_inv s.ensures c.target_statable.ensures))))

pub returns-else-guard_statable : goal.returns-else-guard_statable
returns-else-guard_statable c =
    let a = c.args in
    let x = c.number_at in
    let y = c.number_at-then-in_range in
    let v = c.number_at-then-in_range-2 in
    let g = c.number_at-then-in_range-2-2 in
    let k = c.number_at-then-in_range-2-3 in
    rw (trans_read a.chart.now (TRANSITIONS_AT + a.i * TRANS_ROW) a.i)
    (both (said_of in_range x.type_inv x.ensures c.in_range.ensures) c.if-in_range.true
    (both (said_of in_range y.type_inv y.ensures c.in_range-then-in_range.ensures) c.if-in_range-2.true
    (fails _ (said_of3 guard_statable v.type_inv v.ensures g.type_inv g.ensures
    k.type_inv k.ensures c.guard_statable.ensures) c.if-guard_statable.false)))

pub returns-else-in_range-2 : goal.returns-else-in_range-2
returns-else-in_range-2 c =
    let a = c.args in
    let x = c.number_at in
    let y = c.number_at-then-in_range in
    rw (trans_read a.chart.now (TRANSITIONS_AT + a.i * TRANS_ROW) a.i)
    (both (said_of in_range x.type_inv x.ensures c.in_range.ensures) c.if-in_range.true
    (fails _ (said_of in_range y.type_inv y.ensures c.in_range-then-in_range.ensures) c.if-in_range-2.false))

pub returns-else-in_range : goal.returns-else-in_range
returns-else-in_range c =
    let a = c.args in
    let x = c.number_at in
    rw (trans_read a.chart.now (TRANSITIONS_AT + a.i * TRANS_ROW) a.i)
    (fails _ (said_of in_range x.type_inv x.ensures c.in_range.ensures) c.if-in_range.false)
