-- `state_statable` tests number by number. Assumes nothing.
use mathlib.Core.Path.{◌∙◌}
use Prim.Native.Nat.{◌+◌, ◌*◌}
use mathlib.Core.Bool.{not}
use mathlib.Core.List.{[], ◌∷◌}
use lib.Dec.{eqb}
use Rattle.numbers.proofs.Laws.{back32}
use Rattle.meaning.specs.Value.{one_of_letters, STATES_AT, STATE_ROW}
use Rattle.rules.specs.Clauses.{number_if}
use Rattle.chart_rows.proofs.Said.{said_of}
use Rattle.rules.proofs.Tests.{both, fails}
use Rattle.rules.proofs.Letters.{state_read}
use Rattle.rules.proofs.value.state_statable.Goals as goal

pub returns-then-one_of_letters : goal.returns-then-one_of_letters
returns-then-one_of_letters c =
    let a = c.args in
    let x = c.number_at in
    let y = c.number_at-kind in
    let z = c.number_at-then-one_of_letters in
    rw (state_read a.chart.now (STATES_AT + a.n * STATE_ROW) a.n)
    (both (said_of (number_if (not (eqb a.n 0))) x.type_inv x.ensures c.number_if.ensures) c.if-number_if.true
    (both (said_of (one_of_letters (111 ∷ 97 ∷ 98 ∷ [])) y.type_inv y.ensures c.one_of_letters.ensures) c.if-one_of_letters.true
    (c.number_if-then-one_of_letters.ensures
    ∙ rw (c.is_letter.ensures, back32 y.result y.type_inv, y.ensures, back32 z.result z.type_inv, z.ensures))))

pub returns-else-one_of_letters : goal.returns-else-one_of_letters
returns-else-one_of_letters c =
    let a = c.args in
    let x = c.number_at in
    let y = c.number_at-kind in
    rw (state_read a.chart.now (STATES_AT + a.n * STATE_ROW) a.n)
    (both (said_of (number_if (not (eqb a.n 0))) x.type_inv x.ensures c.number_if.ensures) c.if-number_if.true
    (fails _ (said_of (one_of_letters (111 ∷ 97 ∷ 98 ∷ [])) y.type_inv y.ensures c.one_of_letters.ensures) c.if-one_of_letters.false))

pub returns-else-number_if : goal.returns-else-number_if
returns-else-number_if c =
    let a = c.args in
    let x = c.number_at in
    rw (state_read a.chart.now (STATES_AT + a.n * STATE_ROW) a.n)
    (fails _ (said_of (number_if (not (eqb a.n 0))) x.type_inv x.ensures c.number_if.ensures) c.if-number_if.false)
