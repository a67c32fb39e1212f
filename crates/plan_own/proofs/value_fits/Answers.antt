-- `value_fits` holds a variable against its row, or against 0. Assumes nothing.
use mathlib.Core.Path.{◌∙◌}
use native.Mathlib.Omega.{arith}
use lib.IntN.{pos}
use mir.Facts.{to_z-of_z}
use mir.Syntax.{w32}
use mir.Val.{SFits}
use Rattle.meaning.specs.WellFormed.{plan_by}
use Rattle.queue_calls.proofs.Values.{test_turned, value_there, value_unused}
use borrow.Author.Rules.{rules}
use Rattle.plan_own.proofs.Clauses.{vars_many, row_there, row_is}
use Rattle.plan_own.proofs.value_fits.Goals as goal

pub var_row-row-requires : goal.var_row-row-requires
var_row-row-requires c = row_there c.requires _ c.if-v-k.true

pub returns-then-v-k : goal.returns-then-v-k
returns-then-v-k c =
    let a = c.args in
    let fl : SFits w32 c.var_row-row.result.low = search rules in
    let fh : SFits w32 c.var_row-row.result.high = search rules in
    (rw (to_z-of_z fl, to_z-of_z fh, to_z-of_z c.ranges.x) at c.between.ensures)
    ∙ value_there (plan_by a.plan.now).vars a.v a.x (vars_many c.requires) c.if-v-k.true
    (row_is c.requires _ c.if-v-k.true c.var_row-row.ensures)

pub returns : goal.returns
returns c =
    let a = c.args in
    test_turned a.x (pos 0) c.ranges.x.sfits (omega arith) ∙ value_unused
    (plan_by a.plan.now).vars a.v a.x (vars_many c.requires) c.if-v-k.false
