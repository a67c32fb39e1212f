-- `first_values` copies the first value of each row onto zeros. Assumes nothing.
use mathlib.Core.Path.{refl, ap, ◌∙◌}
use native.Mathlib.Omega.{arith}
use borrow.Author.Rules.{rules}
use mir.Facts.{to_z-of_z}
use mir.Syntax.{w32}
use mir.Val.{SFits}
use Rattle.meaning.specs.WellFormed.{plan_by}
use Rattle.plan_choice.proofs.Facts.{counts_sized}
use Rattle.plan_own.proofs.Clauses.{vars_many, row_there, row_is}
use Rattle.machine.proofs.Starts.{filled_more, filled_all}
use Rattle.machine.proofs.starting.first_values.Goals as goal

pub var_row-requires : goal.var_row-requires
var_row-requires c = row_there c.requires _ c.loop-v-test.true

pub offset_bounds-vars-v : goal.offset_bounds-vars-v
offset_bounds-vars-v c = omega (arith, (counts_sized c.requires).vars, c.loop-v-test.true)

pub bounds-vars-v : goal.bounds-vars-v
bounds-vars-v c = omega (arith, (counts_sized c.requires).vars, c.loop-v-test.true)

pub loop-v-preserved : goal.loop-v-preserved
loop-v-preserved c =
    let w = c.loop-v in
    let r = c.var_row in
    let l = c.loop-v-test.true in
    let m = vars_many c.requires in
    let f : SFits w32 r.result.first = search rules in
    filled_more (plan_by c.args.plan.now).vars w.vars w.v _ w.invariant
    (omega (arith, m, l)) (omega (arith, m, (counts_sized c.requires).vars))
    (to_z-of_z f ∙ ap (λ x. x.first) (row_is c.requires _ l r.ensures))

pub returns : goal.returns
returns c =
    filled_all (plan_by c.args.plan.now).vars _ c.loop-v.v
    c.loop-v.invariant (omega (arith, vars_many c.requires, c.loop-v-test.false))

pub loop-v-init : goal.loop-v-init
loop-v-init c = refl
