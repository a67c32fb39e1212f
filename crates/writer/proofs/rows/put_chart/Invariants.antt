use mathlib.Core.Path.{◌≡◌}
use Rattle.meaning.specs.Value.{rows_of}
use Rattle.pen.specs.Pen.{held, put_all}
use Rattle.writer.proofs.RowLaws.{kinds_from}
use Rattle.writer.proofs.rows.put_chart.Given as goal

abbrev pub invariant-loop-kind : goal.invariant-loop-kind
invariant-loop-kind l =
    (put_all (kinds_from (rows_of l.chart) l.kind-index) (held l.pen) ≡ put_all (kinds_from (rows_of l.chart) 0) (held l.initial.pen))
    × (l.pen.out.ghost_name ≡ l.initial.pen.out.ghost_name)
