-- `row_fits` is the test for a range. Assumes nothing.
use mathlib.Core.Path.{◌∙◌}
use Rattle.numbers.specs.Range.{within}
use Rattle.numbers.proofs.Laws.{back32}
use Rattle.meaning.specs.Rules.{row_fits}
use Rattle.rules.proofs.records.row_fits.Goals as goal

pub returns : goal.returns
unfolding row_fits within
returns c =
    let r = c.args.row in
    let g = c.struct_told-1.given in
    c.between.ensures ∙ rw (back32 r.low g.0.1, back32 r.first g.1.1.0.1, back32 r.high g.1.0.1)
