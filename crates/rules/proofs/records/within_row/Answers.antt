-- `within_row` is the test for a range. Assumes nothing.
use mathlib.Core.Path.{◌∙◌}
use mir.Facts.{to_z-of_z}
use Rattle.numbers.specs.Range.{within}
use Rattle.numbers.proofs.Laws.{back32}
use Rattle.meaning.specs.Rules.{within_row}
use Rattle.rules.proofs.records.within_row.Goals as goal

pub returns : goal.returns
unfolding within_row within
returns c =
    let g = c.struct_told-1.given in
    c.between.ensures ∙ rw (back32 c.args.row.low g.0.1, to_z-of_z c.ranges.x, back32 c.args.row.high g.1.0.1)
