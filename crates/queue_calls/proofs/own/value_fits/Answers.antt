-- `value_fits` holds a variable against its row, or against 0. Assumes nothing.
use mathlib.Core.Path.{◌∙◌}
use native.Mathlib.Omega.{arith}
use lib.IntN.{pos}
use mir.Facts.{to_z-of_z}
use mir.Syntax.{w32}
use mir.Val.{SFits}
use Rattle.meaning.specs.Value.{chart_of}
use Rattle.queue_calls.proofs.Values.{test_turned, value_there, value_unused}
use borrow.Author.Rules.{rules}
use Rattle.queue_calls.proofs.own.value_fits.Goals as goal

pub returns-then-v-var_count : goal.returns-then-v-var_count
returns-then-v-var_count c = let fl : SFits w32 c.var_row-row.result.low = search rules in
    let fh : SFits w32 c.var_row-row.result.high = search rules in
    (rw (to_z-of_z fl, to_z-of_z fh, to_z-of_z c.ranges.x) at c.between.ensures)
    ∙ value_there (chart_of c.args.chart.now).vars
    c.args.v c.args.x c.var_count.ensures
    c.if-v-var_count.true c.var_row-row.ensures

pub returns : goal.returns
returns c = test_turned c.args.x (pos 0) c.ranges.x.sfits (omega arith)
    ∙ value_unused (chart_of c.args.chart.now).vars
    c.args.v c.args.x c.var_count.ensures c.if-v-var_count.false
