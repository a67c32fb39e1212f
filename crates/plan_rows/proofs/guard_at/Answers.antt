-- `guard_at` reads the three numbers of a head's guard. Assumes nothing.
use mathlib.Core.Path.{sym, ◌∙◌}
use Rattle.meaning.specs.WellFormed.{head_guard_by}
use Rattle.chart_rows.proofs.Said.{said_of3}
use Rattle.plan_rows.proofs.Rows.{guard_of}
use Rattle.plan_rows.proofs.guard_at.Goals as goal

pub returns : goal.returns
returns c =
    let x = c.read in
    let y = c.read-2 in
    let z = c.read-3 in
    let a = c.args in
    said_of3 head_guard_by x.type_inv x.ensures y.type_inv y.ensures z.type_inv z.ensures c.head_guard_by.ensures
    ∙ sym (guard_of a.plan.now a.at)
