use mathlib.Core.Path.{◌≡◌}
use Prim.Native.Nat.{◌+◌, ◌*◌, ◌-◌, ◌≤◌}
use Rattle.numbers.specs.Reference.{NOWHERE}
use Rattle.meaning.specs.Grammar.{form}
use Rattle.meaning.specs.Split.{TAB, tails}
use Rattle.meaning.specs.Line.{write_by}
use Rattle.chart_rows.specs.Kinds.{as_record}
use Rattle.forms.specs.Table.{ENTRIES}
use Rattle.pen.specs.Pen.{held, put_all}
use Rattle.writer.proofs.LineLaws.{Left}
use Rattle.writer.proofs.rows.put_fields.Given as goal

abbrev pub invariant-loop-field : goal.invariant-loop-field
invariant-loop-field l =
    Left l.chart l.n (put_all (tails TAB (write_by (form (as_record l.fn.kind) l.n) l.n l.from l.chart)) (held l.initial.pen))
    l.i l.at (held l.pen)
    × (l.at + 2 * (ENTRIES - l.i) + 2 ≤ NOWHERE) × (l.pen.out.ghost_name ≡ l.initial.pen.out.ghost_name)

abbrev pub decreases-loop-field : goal.decreases-loop-field
decreases-loop-field l = ENTRIES - l.i
