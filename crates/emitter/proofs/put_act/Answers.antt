-- `put_act` puts an act with its fields. Assumes nothing.
use Rattle.numbers.proofs.Laws.{back32}
use mir.Facts.{to_z-of_z}
use mir.Syntax.{w32}
use mir.Val.{SFits}
use Rattle.meaning.specs.Plan.{act_numbers, instr_numbers}
use Rattle.plan_rows.specs.Codes.{code_number}
use Rattle.emitter.proofs.Laws.{emits_one}
use native.Mathlib.Omega.{arith}
use borrow.Author.Rules.{rules}
use Rattle.emitter.proofs.put_act.Goals as goal

pub number-requires : goal.number-requires
number-requires c = rw c.in-SetTo.is at c.requires.0

pub number-requires-in-AddTo : goal.number-requires-in-AddTo
number-requires-in-AddTo c = rw c.in-AddTo.is at c.requires.0

pub put_plain-requires : goal.put_plain-requires
put_plain-requires c =
    let o = rw c.in-TakeTo.is at c.requires.0 in
    omega (arith, c.requires.1)

pub number-requires-in-Send : goal.number-requires-in-Send
number-requires-in-Send c = rw c.in-Send.is at c.requires.0

pub returns-in-SetTo : goal.returns-in-SetTo
unfolding instr_numbers act_numbers code_number
returns-in-SetTo c =
    let fx : SFits w32 c.in-SetTo.x = search rules in
    rw c.in-SetTo.is
    (emits_one _ _ (rw (
      back32 c.number.result c.number.type_inv,
      c.number.ensures,
      to_z-of_z fx,
    ) at c.put_code.ensures))

pub returns-in-AddTo : goal.returns-in-AddTo
unfolding instr_numbers act_numbers code_number
returns-in-AddTo c =
    let fx : SFits w32 c.in-AddTo.x = search rules in
    rw c.in-AddTo.is
    (emits_one _ _ (rw (
      back32 c.number-in-AddTo.result c.number-in-AddTo.type_inv,
      c.number-in-AddTo.ensures,
      to_z-of_z fx,
    ) at c.put_code-in-AddTo.ensures))

pub returns-in-TakeTo : goal.returns-in-TakeTo
unfolding instr_numbers act_numbers code_number
returns-in-TakeTo c = rw c.in-TakeTo.is (emits_one _ _ c.put_plain.ensures)

pub returns-in-Send : goal.returns-in-Send
unfolding instr_numbers act_numbers code_number
returns-in-Send c =
    let fx : SFits w32 c.in-Send.x = search rules in
    rw c.in-Send.is
    (emits_one _ _ (rw (
      back32 c.number-in-Send.result c.number-in-Send.type_inv,
      c.number-in-Send.ensures,
      to_z-of_z fx,
    ) at c.put_code-in-Send.ensures))

pub returns-in-Tell : goal.returns-in-Tell
unfolding instr_numbers act_numbers code_number
returns-in-Tell c =
    let fx : SFits w32 c.in-Tell.x = search rules in
    rw c.in-Tell.is
    (emits_one _ _ (rw (to_z-of_z fx) at c.put_code-in-Tell.ensures))
