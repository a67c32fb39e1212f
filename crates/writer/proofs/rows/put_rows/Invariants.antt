use mathlib.Core.Path.{◌≡◌}
use Rattle.meaning.specs.Value.{rows_of}
use Rattle.meaning.specs.Line.{text_of_row}
use Rattle.chart_rows.specs.Kinds.{as_record}
use Rattle.pen.specs.Pen.{held, put_all}
use Rattle.writer.proofs.RowLaws.{left_from}
use Rattle.writer.proofs.rows.put_rows.Given as goal

abbrev pub invariant-loop-n : goal.invariant-loop-n
invariant-loop-n l =
    (put_all (left_from (text_of_row (as_record l.kind)) (rows_of l.chart (as_record l.kind)) l.n) (held l.pen)
    ≡ put_all (left_from (text_of_row (as_record l.kind)) (rows_of l.chart (as_record l.kind)) 0) (held l.initial.pen))
    × (l.pen.out.ghost_name ≡ l.initial.pen.out.ghost_name)
