-- `var_row` reads the three numbers of its row. Assumes nothing.
use mathlib.Core.Path.{◌∙◌}
use Prim.Native.Nat.{◌+◌, ◌*◌}
use Rattle.numbers.proofs.Laws.{back32}
use Rattle.meaning.specs.Value.{VAR_ROW}
use Rattle.meaning.specs.WellFormed.{SIX}
use Rattle.plan_rows.proofs.Rows.{var_said}
use Rattle.plan_rows.proofs.var_row.Goals as goal

pub returns : goal.returns
returns c =
    let a = c.args in
    let x = c.read in
    let y = c.read-2 in
    let z = c.read-3 in
    var_said a.plan.now (SIX + a.v * VAR_ROW) (back32 x.result x.type_inv ∙ x.ensures) (back32 y.result y.type_inv ∙ y.ensures)
    (back32 z.result z.type_inv ∙ z.ensures)
