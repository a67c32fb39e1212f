use mathlib.Core.Path.{◌≡◌}
use lib.ListN.{drop}
use Rattle.meaning.specs.Lists.{every_from}
use Rattle.meaning.specs.Value.{laid, rows_of, statable, part_fits}
use Rattle.chart_rows.specs.Kinds.{as_record}
use Rattle.rules.proofs.value.rows_statable.Given as goal

abbrev pub invariant-loop-i : goal.invariant-loop-i
invariant-loop-i l =
    every_from (statable (as_record l.kind)) l.i (drop l.i (rows_of l.chart (as_record l.kind)))
    ≡ part_fits l.chart (laid (as_record l.kind))
