-- `put_said` by the field. Assumes nothing.
use mathlib.Core.Path.{ap, ◌∙◌}
use native.Mathlib.Omega.{arith}
use Rattle.numbers.specs.Reference.{ref}
use Rattle.numbers.proofs.Laws.{back32}
use Rattle.writer.proofs.CellLaws.{said_turn, said_number, said_count, said_state, said_history, said_dash, said_place}
use Rattle.writer.proofs.CellLaws.{letter_small, said_letter}
use Rattle.writer.proofs.cells.put_said.Goals as goal

pub overflow_cast-reference : goal.overflow_cast-reference
overflow_cast-reference c =
    let z = c.number_at-in-Letter in
    let g = (rw (back32 z.result z.type_inv) at c.reference.ensures) ∙ ap ref z.ensures in
    let h = letter_small c.in-Letter.field-0 c.args.at c.args.chart.now (rw c.in-Letter.is at c.requires.0) in
    record { fits = omega arith }

pub returns-in-Letter-clause-written : goal.returns-in-Letter-clause-written
returns-in-Letter-clause-written c =
    let z = c.number_at-in-Letter in
    let g = (rw (back32 z.result z.type_inv) at c.reference.ensures) ∙ ap ref z.ensures in
    rw c.in-Letter.is (said_letter _ _ _ _ _ _ _ g c.put-in-Letter.ensures.written)

pub returns-in-Number-clause-written : goal.returns-in-Number-clause-written
returns-in-Number-clause-written c =
    let z = c.number_at in
    rw c.in-Number.is (said_number _ _ _ _ _ _ c.put_numeral.ensures.written (back32 z.result z.type_inv ∙ z.ensures))

pub returns-in-EventCount-clause-written : goal.returns-in-EventCount-clause-written
returns-in-EventCount-clause-written c =
    let z = c.number_at-in-EventCount in
    rw c.in-EventCount.is (said_count _ _ _ _ _ _ c.put_numeral-in-EventCount.ensures.written (back32 z.result z.type_inv ∙ z.ensures))

pub returns-in-TargetState-clause-written : goal.returns-in-TargetState-clause-written
returns-in-TargetState-clause-written c =
    let z = c.number_at-in-TargetState in
    rw c.in-TargetState.is (said_state _ _ _ _ _ _ c.put_numeral-in-TargetState.ensures.written (back32 z.result z.type_inv ∙ z.ensures))

pub returns-in-TargetHistory-clause-written : goal.returns-in-TargetHistory-clause-written
returns-in-TargetHistory-clause-written c =
    let z = c.number_at-in-TargetHistory in
    rw c.in-TargetHistory.is
    (said_history _ _ _ _ _ _ _ (back32 z.result z.type_inv ∙ z.ensures) c.put-in-TargetHistory.ensures.written c.put_numeral-in-TargetHistory.ensures.written)

pub returns-in-Turn-clause-written : goal.returns-in-Turn-clause-written
returns-in-Turn-clause-written c = rw c.in-Turn.is (said_turn _ _ _ _ _ c.put_digits.ensures.written)

pub returns-in-Dash-clause-written : goal.returns-in-Dash-clause-written
returns-in-Dash-clause-written c = rw c.in-Dash.is (said_dash _ _ _ _ _ c.put.ensures.written)

pub returns-in-InPlace-clause-written : goal.returns-in-InPlace-clause-written
returns-in-InPlace-clause-written c = rw c.in-InPlace.is (said_place _ _ _ _ _ c.put-in-InPlace.ensures.written)
