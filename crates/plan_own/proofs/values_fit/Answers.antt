-- `values_fit` passes every variable. Assumes nothing.
use Rattle.std.proofs.Common.{rules, tests, arith, ◌≡◌}
use Rattle.std.proofs.lemmas.Iterator.{serves_from_Range}
use mathlib.Core.Path.{refl, sym, ap, ◌∙◌}
use mathlib.Core.Bool.{◌&&◌, and-true}
use mir.Facts.{to_z-of_z}
use mir.Syntax.{w32}
use mir.Val.{SFits}
use lib.IntN.{pos}
use lib.ListN.{length, get_or}
use Rattle.sizes.specs.Sizes.{VARIABLES}
use Rattle.numbers.specs.Equal.{eq_z}
use Rattle.meaning.specs.WellFormed.{plan_by}
use Rattle.meaning.proofs.Tried.{all_from}
use Rattle.widget.proofs.Every.{every_done}
use Rattle.queue_calls.specs.Parts.{value_fits}
use Rattle.queue_calls.proofs.Values.{values_by}
use Rattle.plan_choice.proofs.Facts.{counts_sized}
use Rattle.plan_own.proofs.Clauses.{vars_many}
use Rattle.plan_own.proofs.values_fit.Goals as goal

pub all-requires-clause-callable : goal.all-requires-clause-callable
all-requires-clause-callable c =
    let h = c.requires in
    serves_from_Range (λ x q r. search rules) (λ x low high. search rules)

pub returns : goal.returns
returns c =
    let a = c.args in
    let rs = (plan_by a.plan.now).vars in
    let long : length a.vars ≡ VARIABLES = search rules in
    sym (and-true c.all.result)
    ∙ ap (λ r. c.all.result && r) (every_done (eq_z (pos 0)) a.vars VARIABLES refl (omega arith))
    ∙ values_by rs a.vars {n = VARIABLES} (omega (arith, vars_many c.requires, (counts_sized c.requires).vars)) (omega arith)
    (all_from {b = VARIABLES} (λ i. value_fits rs i (get_or a.vars i (pos 0))) 0 VARIABLES c.all.ensures.ran (cc) (omega arith) (λ x t q h.
    let fx : SFits w32 (get_or a.vars x (pos 0)) = search rules in
    rw (← to_z-of_z fx) (search (rules, tests))))
