-- `var_statable` tests number by number. Assumes nothing.
use Prim.Native.Nat.{◌+◌, ◌*◌}
use Rattle.numbers.specs.Range.{in_range}
use Rattle.meaning.specs.Value.{VARS_AT, VAR_ROW}
use Rattle.chart_rows.proofs.Said.{said_of}
use Rattle.rules.proofs.Tests.{both, fails}
use Rattle.rules.proofs.Letters.{var_read}
use Rattle.rules.proofs.value.var_statable.Goals as goal

pub returns-then-in_range-2 : goal.returns-then-in_range-2
returns-then-in_range-2 c =
    let a = c.args in
    let x = c.number_at in
    let y = c.number_at-then-in_range in
    let z = c.number_at-then-in_range-2 in
    rw (var_read a.chart.now (VARS_AT + a.i * VAR_ROW) a.i)
    (both (said_of in_range x.type_inv x.ensures c.in_range.ensures) c.if-in_range.true
    (both (said_of in_range y.type_inv y.ensures c.in_range-then-in_range.ensures) c.if-in_range-2.true
    (said_of in_range z.type_inv z.ensures c.in_range-then-in_range-2.ensures)))

pub returns-else-in_range-2 : goal.returns-else-in_range-2
returns-else-in_range-2 c =
    let a = c.args in
    let x = c.number_at in
    let y = c.number_at-then-in_range in
    rw (var_read a.chart.now (VARS_AT + a.i * VAR_ROW) a.i)
    (both (said_of in_range x.type_inv x.ensures c.in_range.ensures) c.if-in_range.true
    (fails _ (said_of in_range y.type_inv y.ensures c.in_range-then-in_range.ensures) c.if-in_range-2.false))

pub returns-else-in_range : goal.returns-else-in_range
returns-else-in_range c =
    let a = c.args in
    let x = c.number_at in
    rw (var_read a.chart.now (VARS_AT + a.i * VAR_ROW) a.i)
    (fails _ (said_of in_range x.type_inv x.ensures c.in_range.ensures) c.if-in_range.false)
