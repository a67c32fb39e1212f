-- `rows_statable` tries each row. Assumes nothing.
use native.Mathlib.Omega.{arith}
use Rattle.rules.proofs.KindTests.{rows_end, row_stops, row_goes}
use borrow.Author.Rules.{rules}
use Rattle.rules.proofs.value.rows_statable.Goals as goal

pub returns-then-not-row_statable : goal.returns-then-not-row_statable
returns-then-not-row_statable c =
    row_stops c.args.chart.now _ _ _ c.how_many-i-end.ensures.0 _ c.loop-i-test.true
    c.row_statable.ensures c.if-not-row_statable.true-raw c.loop-i.invariant

pub loop-i-preserved : goal.loop-i-preserved
loop-i-preserved c =
    row_goes c.args.chart.now _ _ _ c.how_many-i-end.ensures.0 _ c.loop-i-test.true
    c.row_statable.ensures c.if-not-row_statable.false-raw c.loop-i.invariant

pub returns : goal.returns
returns c = rows_end c.args.chart.now _ _ _ c.how_many-i-end.ensures.0 c.loop-i-test.false c.loop-i.invariant

pub row_statable-requires : goal.row_statable-requires
row_statable-requires c = (omega (arith, c.loop-i-test.true, c.how_many-i-end.ensures.1), search rules)
