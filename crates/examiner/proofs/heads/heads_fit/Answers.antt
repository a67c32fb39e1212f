-- `heads_fit` tries each head. Assumes nothing.
use Rattle.std.proofs.Common.{rules, tests, arith, ◌+◌, ◌*◌, ◌≤◌, length, take, drop, ap, ◌∙◌}
use Rattle.std.proofs.lemmas.Iterator.{serves_from_Range}
use Rattle.meaning.specs.Lists.{every, chunks}
use Rattle.meaning.specs.WellFormed.{HEAD_ROW, head_rows, head_fits}
use Rattle.meaning.proofs.Tried.{all_from}
use Rattle.plan_rows.specs.Rows.{Sized}
use Rattle.examiner.proofs.Wholes.{whole_sized, heads_there}
use Rattle.examiner.proofs.Loops.{each_row}
use Rattle.examiner.proofs.heads.heads_fit.Goals as goal

pub heads_at-base-requires : goal.heads_at-base-requires
heads_at-base-requires c = whole_sized c.args.plan.now c.args.k c.requires

pub all-requires-clause-callable : goal.all-requires-clause-callable
all-requires-clause-callable c =
    let a = c.args in
    let s : Sized a.k = whole_sized a.plan.now a.k c.requires in
    let t : c.heads_at-base.result + a.k.heads * HEAD_ROW ≤ length a.plan.now =
    omega (arith, heads_there a.plan.now a.k c.requires, c.heads_at-base.ensures) in
    serves_from_Range (λ x q r. search rules) (λ x low high. search rules)

pub returns : goal.returns
unfolding head_rows
returns c =
    let a = c.args in
    all_from {b = a.k.heads} (λ h. head_fits a.k (take HEAD_ROW (drop (c.heads_at-base.result + h * HEAD_ROW) a.plan.now))) 0 a.k.heads
    c.all.ensures.ran (cc) (omega arith) (λ x t q h. search (rules, tests))
    ∙ each_row HEAD_ROW c.heads_at-base.result a.plan.now (head_fits a.k) a.k.heads
    ∙ ap (λ m. every (head_fits a.k) (chunks a.k.heads HEAD_ROW (drop m a.plan.now))) c.heads_at-base.ensures
