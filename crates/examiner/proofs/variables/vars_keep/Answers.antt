-- `vars_keep` tries each variable. Assumes nothing.
use Rattle.std.proofs.Common.{rules, tests, arith, ◌+◌, ◌*◌, ◌≤◌, length, ◌∙◌}
use Rattle.std.proofs.lemmas.Iterator.{serves_from_Range}
use Rattle.meaning.specs.Value.{VAR_ROW}
use Rattle.meaning.specs.WellFormed.{SIX, var_keeps, var_rows}
use Rattle.meaning.proofs.Tried.{all_from}
use Rattle.plan_rows.specs.Rows.{row}
use Rattle.examiner.proofs.Wholes.{vars_there}
use Rattle.examiner.proofs.Loops.{each_row}
use Rattle.examiner.proofs.variables.vars_keep.Goals as goal

pub all-requires-clause-callable : goal.all-requires-clause-callable
all-requires-clause-callable c =
    let a = c.args in
    let t : SIX + a.k.vars * VAR_ROW ≤ length a.plan.now = vars_there a.plan.now a.k c.requires in
    serves_from_Range (λ x q r. search rules) (λ x low high. search rules)

pub returns : goal.returns
unfolding var_rows
returns c =
    let a = c.args in
    all_from {b = a.k.vars} (λ v. var_keeps (row VAR_ROW SIX v a.plan.now)) 0 a.k.vars
    c.all.ensures.ran (cc) (omega arith) (λ x t q h. search (rules, tests))
    ∙ each_row VAR_ROW SIX a.plan.now var_keeps a.k.vars
