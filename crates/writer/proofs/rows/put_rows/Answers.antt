-- `put_rows`: what is left from row n on, put behind what was put, is the whole. Assumes nothing.
use mathlib.Core.Path.{refl, ◌∙◌}
use Rattle.writer.proofs.RowLaws.{row_statable, row_more, rows_done}
use borrow.Author.Rules.{rules}
use Rattle.writer.proofs.rows.put_rows.Goals as goal

pub put_line-requires : goal.put_line-requires
put_line-requires c =
    let k = c.area-area.ensures in
    row_statable c.args.chart.now c.requires _ _ c.how_many-n-end.ensures _ _ (rw (k.place, k.size) refl) c.loop-n-test.true

pub loop-n-preserved : goal.loop-n-preserved
loop-n-preserved c =
    let k = c.area-area.ensures in (
      row_more c.args.chart.now c.requires _ _ c.how_many-n-end.ensures _ _ (rw (k.place, k.size) refl) c.loop-n-test.true _ _
          c.put_line.ensures.written
          ∙ c.loop-n.invariant.0,
      search rules,
    )

pub returns-clause-written : goal.returns-clause-written
returns-clause-written c = rows_done c.args.chart.now c.requires _ _ c.how_many-n-end.ensures _ _ refl _ _ c.loop-n-test.false c.loop-n.invariant.0
