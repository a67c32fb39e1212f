-- `put_out` puts OUT with the parent or -1. Assumes nothing.
use Rattle.numbers.proofs.Laws.{back32}
use Rattle.meaning.specs.Plan.{slot_number, instr_numbers}
use Rattle.plan_rows.specs.Codes.{code_number}
use Rattle.emitter.proofs.Laws.{emits_one}
use native.Mathlib.Omega.{arith}
use Rattle.emitter.proofs.put_out.Goals as goal

pub put_plain-requires : goal.put_plain-requires
put_plain-requires c =
    let o = rw c.in-Some.is at c.requires.1 in
    omega (arith, c.requires.0, c.requires.2)

pub returns-in-None : goal.returns-in-None
unfolding instr_numbers slot_number code_number
returns-in-None c =
    rw c.in-None.is
    (emits_one _ _ (rw (
      back32 c.number.result c.number.type_inv,
      c.number.ensures,
    ) at c.put_code.ensures))

pub returns-in-Some : goal.returns-in-Some
unfolding instr_numbers slot_number code_number
returns-in-Some c = rw c.in-Some.is (emits_one _ _ c.put_plain.ensures)
