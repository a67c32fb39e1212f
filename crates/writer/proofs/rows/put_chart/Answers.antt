-- `put_chart`: what is left from kind i on, put behind what was put, is the whole. Assumes nothing.
use mathlib.Core.Path.{◌∙◌}
use Rattle.meaning.specs.Value.{rows_of}
use Rattle.meaning.specs.Text.{text_of}
use Rattle.chart_rows.proofs.Named.{kind_at}
use Rattle.writer.proofs.RowLaws.{kind_more, kinds_done}
use borrow.Author.Rules.{rules}
use Rattle.writer.proofs.rows.put_chart.Goals as goal

pub loop-kind-preserved : goal.loop-kind-preserved
loop-kind-preserved c = (
  kind_more (rows_of c.args.chart.now) _ _ _ _ c.loop-kind-test.true (kind_at _ _ c.loop-kind-test.true) c.put_rows.ensures.written
      ∙ c.loop-kind.invariant.0,
  search rules,
)

pub returns : goal.returns
unfolding text_of
returns c =
    let z = kinds_done (rows_of c.args.chart.now) _ _ _ c.loop-kind-test.false c.loop-kind.invariant.0 in search rules
