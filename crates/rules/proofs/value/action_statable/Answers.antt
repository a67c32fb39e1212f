-- `action_statable` tests number by number. Assumes nothing.
use mathlib.Core.Path.{◌∙◌}
use Prim.Native.Nat.{◌+◌, ◌*◌}
use mathlib.Core.List.{[], ◌∷◌}
use Rattle.numbers.specs.Range.{in_range}
use Rattle.numbers.proofs.Laws.{back32}
use Rattle.meaning.specs.Value.{one_of_letters, ACTIONS_AT, ACT_ROW}
use Rattle.chart_rows.proofs.Said.{said_of}
use Rattle.rules.proofs.Tests.{both, fails}
use Rattle.rules.proofs.Letters.{action_read}
use Rattle.rules.proofs.value.action_statable.Goals as goal

pub returns-then-in_range-2 : goal.returns-then-in_range-2
returns-then-in_range-2 c =
    let a = c.args in
    let x = c.number_at in
    let n = c.number_at-then-one_of_letters in
    let k = c.number_at-act in
    let y = c.number_at-then-one_of_letters-2 in
    let z = c.number_at-then-in_range-2 in
    rw (action_read a.chart.now (ACTIONS_AT + a.i * ACT_ROW) a.i)
    (both (said_of (one_of_letters (101 ∷ 120 ∷ 100 ∷ 116 ∷ [])) x.type_inv x.ensures c.one_of_letters.ensures) c.if-one_of_letters.true
    (both (said_of in_range n.type_inv n.ensures c.in_range.ensures) c.if-in_range.true
    (both (said_of (one_of_letters (115 ∷ 97 ∷ 107 ∷ 113 ∷ 111 ∷ [])) k.type_inv k.ensures c.one_of_letters-then-in_range.ensures)
    c.if-one_of_letters-2.true
    (both (said_of in_range y.type_inv y.ensures c.in_range-then-one_of_letters-2.ensures) c.if-in_range-2.true
    (c.number_if.ensures
    ∙ rw (c.one_of_letters-then-in_range-2.ensures, back32 k.result k.type_inv, k.ensures, back32 z.result z.type_inv, z.ensures))))))

pub returns-else-in_range-2 : goal.returns-else-in_range-2
returns-else-in_range-2 c =
    let a = c.args in
    let x = c.number_at in
    let n = c.number_at-then-one_of_letters in
    let k = c.number_at-act in
    let y = c.number_at-then-one_of_letters-2 in
    rw (action_read a.chart.now (ACTIONS_AT + a.i * ACT_ROW) a.i)
    (both (said_of (one_of_letters (101 ∷ 120 ∷ 100 ∷ 116 ∷ [])) x.type_inv x.ensures c.one_of_letters.ensures) c.if-one_of_letters.true
    (both (said_of in_range n.type_inv n.ensures c.in_range.ensures) c.if-in_range.true
    (both (said_of (one_of_letters (115 ∷ 97 ∷ 107 ∷ 113 ∷ 111 ∷ [])) k.type_inv k.ensures c.one_of_letters-then-in_range.ensures)
    c.if-one_of_letters-2.true
    (fails _ (said_of in_range y.type_inv y.ensures c.in_range-then-one_of_letters-2.ensures) c.if-in_range-2.false))))

pub returns-else-one_of_letters-2 : goal.returns-else-one_of_letters-2
returns-else-one_of_letters-2 c =
    let a = c.args in
    let x = c.number_at in
    let n = c.number_at-then-one_of_letters in
    let k = c.number_at-act in
    rw (action_read a.chart.now (ACTIONS_AT + a.i * ACT_ROW) a.i)
    (both (said_of (one_of_letters (101 ∷ 120 ∷ 100 ∷ 116 ∷ [])) x.type_inv x.ensures c.one_of_letters.ensures) c.if-one_of_letters.true
    (both (said_of in_range n.type_inv n.ensures c.in_range.ensures) c.if-in_range.true
    (fails _ (said_of (one_of_letters (115 ∷ 97 ∷ 107 ∷ 113 ∷ 111 ∷ [])) k.type_inv k.ensures c.one_of_letters-then-in_range.ensures)
    c.if-one_of_letters-2.false)))

pub returns-else-in_range : goal.returns-else-in_range
returns-else-in_range c =
    let a = c.args in
    let x = c.number_at in
    let n = c.number_at-then-one_of_letters in
    rw (action_read a.chart.now (ACTIONS_AT + a.i * ACT_ROW) a.i)
    (both (said_of (one_of_letters (101 ∷ 120 ∷ 100 ∷ 116 ∷ [])) x.type_inv x.ensures c.one_of_letters.ensures) c.if-one_of_letters.true
    (fails _ (said_of in_range n.type_inv n.ensures c.in_range.ensures) c.if-in_range.false))

pub returns-else-one_of_letters : goal.returns-else-one_of_letters
returns-else-one_of_letters c =
    let a = c.args in
    let x = c.number_at in
    rw (action_read a.chart.now (ACTIONS_AT + a.i * ACT_ROW) a.i)
    (fails _ (said_of (one_of_letters (101 ∷ 120 ∷ 100 ∷ 116 ∷ [])) x.type_inv x.ensures c.one_of_letters.ensures)
    c.if-one_of_letters.false)
