-- `put_instr` puts the four numbers of an instruction. Assumes nothing.
use Rattle.meaning.specs.Plan.{instr_numbers}
use Rattle.plan_rows.specs.Codes.{code_number}
use Rattle.emitter.proofs.Laws.{emits_one}
use native.Mathlib.Omega.{arith}
use Rattle.emitter.proofs.put_instr.Goals as goal

pub put_plain-requires : goal.put_plain-requires
put_plain-requires c =
    let o = rw c.in-In.is at c.requires.0 in
    omega (arith, c.requires.1)

pub put_out-requires : goal.put_out-requires
put_out-requires c =
    let o = rw c.in-Out.is at c.requires.0 in
    (o.0, o.1, c.requires.1)

pub put_plain-requires-in-SkipOut : goal.put_plain-requires-in-SkipOut
put_plain-requires-in-SkipOut c =
    let o = rw c.in-SkipOut.is at c.requires.0 in
    omega (arith, c.requires.1)

pub put_plain-requires-in-SkipEmpty : goal.put_plain-requires-in-SkipEmpty
put_plain-requires-in-SkipEmpty c =
    let o = rw c.in-SkipEmpty.is at c.requires.0 in
    omega (arith, c.requires.1)

pub put_plain-requires-in-SkipFull : goal.put_plain-requires-in-SkipFull
put_plain-requires-in-SkipFull c =
    let o = rw c.in-SkipFull.is at c.requires.0 in
    omega (arith, c.requires.1)

pub put_plain-requires-in-SkipNot : goal.put_plain-requires-in-SkipNot
put_plain-requires-in-SkipNot c =
    let o = rw c.in-SkipNot.is at c.requires.0 in
    omega (arith, c.requires.1)

pub put_act-requires : goal.put_act-requires
put_act-requires c = (
  rw c.in-Does.is at c.requires.0,
  c.requires.1,
)

pub returns-in-In : goal.returns-in-In
unfolding instr_numbers code_number
returns-in-In c = rw c.in-In.is (emits_one _ _ c.put_plain.ensures)

pub returns-in-Out : goal.returns-in-Out
returns-in-Out c = rw c.in-Out.is c.put_out.ensures

pub returns-in-SkipOut : goal.returns-in-SkipOut
unfolding instr_numbers code_number
returns-in-SkipOut c = rw c.in-SkipOut.is (emits_one _ _ c.put_plain-in-SkipOut.ensures)

pub returns-in-SkipEmpty : goal.returns-in-SkipEmpty
unfolding instr_numbers code_number
returns-in-SkipEmpty c = rw c.in-SkipEmpty.is (emits_one _ _ c.put_plain-in-SkipEmpty.ensures)

pub returns-in-SkipFull : goal.returns-in-SkipFull
unfolding instr_numbers code_number
returns-in-SkipFull c = rw c.in-SkipFull.is (emits_one _ _ c.put_plain-in-SkipFull.ensures)

pub returns-in-SkipNot : goal.returns-in-SkipNot
unfolding instr_numbers code_number
returns-in-SkipNot c = rw c.in-SkipNot.is (emits_one _ _ c.put_plain-in-SkipNot.ensures)

pub returns-in-Does : goal.returns-in-Does
returns-in-Does c = rw c.in-Does.is c.put_act.ensures
