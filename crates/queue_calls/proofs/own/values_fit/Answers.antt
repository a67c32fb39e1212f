-- `values_fit` passes every variable of the chart, and then the others. Assumes nothing.
use Rattle.std.proofs.Common.{rules, tests, arith, ◌≡◌, ◌≤◌}
use Rattle.std.proofs.lemmas.Iterator.{serves_from_Range}
use mathlib.Core.Path.{◌∙◌}
use mathlib.Core.Bool.{◌&&◌}
use mir.Facts.{to_z-of_z}
use mir.Syntax.{w32}
use mir.Val.{SFits}
use lib.IntN.{pos}
use lib.ListN.{length, get_or, drop}
use Rattle.sizes.specs.Sizes.{VARIABLES}
use Rattle.numbers.specs.Equal.{eq_z}
use Rattle.meaning.specs.Lists.{every, from}
use Rattle.meaning.specs.Foreign.{values_fit}
use Rattle.meaning.specs.Value.{chart_of}
use Rattle.meaning.proofs.Tried.{all_from}
use Rattle.chart_rows.proofs.Rows.{vars_most}
use Rattle.queue_calls.specs.Parts.{value_fits}
use Rattle.queue_calls.proofs.Values.{values_by}
use Rattle.queue_calls.proofs.own.values_fit.Goals.{After-all}
use Rattle.queue_calls.proofs.own.values_fit.Goals as goal

pub all-requires-clause-callable : goal.all-requires-clause-callable
all-requires-clause-callable c =
    let few : c.var_count-n.result ≤ VARIABLES = omega (arith, c.var_count-n.ensures, vars_most c.args.chart.now) in
    serves_from_Range (λ x q r. search rules) (λ x low high. search rules)

tried : (c : After-all)
    → c.all.result ≡ every (λ i. value_fits (chart_of c.args.chart.now).vars i (get_or c.args.vars i (pos 0))) (from 0 c.var_count-n.result)
tried c =
    all_from {b = c.var_count-n.result} (λ i. value_fits (chart_of c.args.chart.now).vars i (get_or c.args.vars i (pos 0))) 0
    c.var_count-n.result c.all.ensures.ran (cc) (omega arith) (λ x t q h.
    let fx : SFits w32 (get_or c.args.vars x (pos 0)) = search rules in
    rw (← to_z-of_z fx) (search (rules, tests)))

-- and the others
both : (c : After-all) → (c.all.result && every (eq_z (pos 0)) (drop c.var_count-n.result c.args.vars))
    ≡ values_fit (chart_of c.args.chart.now).vars c.args.vars
both c =
    let few : c.var_count-n.result ≤ VARIABLES = omega (arith, c.var_count-n.ensures, vars_most c.args.chart.now) in
    let long : length c.args.vars ≡ VARIABLES = search rules in
    values_by (chart_of c.args.chart.now).vars c.args.vars (omega (arith, c.var_count-n.ensures)) (omega arith) (tried c)

pub returns-else-all : goal.returns-else-all
returns-else-all c = c.if-all.false ∙ rw c.if-all.false at (both (goal.at.returns-else-all c).After-all)

pub returns-then-all : goal.returns-then-all
returns-then-all c = c.rest_zero.ensures ∙ rw c.if-all.true at (both (goal.at.returns-then-all c).After-all)
