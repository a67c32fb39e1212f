-- `first_values` copies the first value of each row onto zeros. Assumes nothing.
use Rattle.std.proofs.Common.{refl, ap, ◌∙◌, rules, arith}
use mir.Facts.{to_z-of_z}
use mir.Syntax.{w32}
use mir.Val.{SFits}
use Rattle.reaction.proofs.Going.{sized}
use Rattle.reaction.proofs.StartLaws.{filled_more, filled_all}
use Rattle.reaction.proofs.starting.first_values.Goals as goal

pub loop-v-init : goal.loop-v-init
loop-v-init c = refl

pub offset_bounds-vars-v : goal.offset_bounds-vars-v
offset_bounds-vars-v c = omega (arith, (sized _ c.requires).vars)

pub bounds-vars-v : goal.bounds-vars-v
bounds-vars-v c = omega (arith, (sized _ c.requires).vars)

pub loop-v-preserved : goal.loop-v-preserved
loop-v-preserved c =
    let w = c.loop-v in
    let r = c.var_row-row in
    let f : SFits w32 r.result.first = search rules in
    filled_more _ w.vars w.v _ w.invariant (omega arith)
    (sized _ c.requires).vars (to_z-of_z f ∙ ap (λ x. x.first) r.ensures)

pub returns : goal.returns
returns c = filled_all _ _ c.loop-v.v c.loop-v.invariant (omega arith)
