-- `count_fits` is the test for a range. Assumes nothing.
use mathlib.Core.Path.{◌∙◌}
use mir.Facts.{to_z-of_z}
use Rattle.numbers.specs.Range.{within}
use Rattle.numbers.proofs.Laws.{back32}
use Rattle.examiner.proofs.fits.count_fits.Goals as goal

pub returns : goal.returns
unfolding within
returns c =
    let x = c.number in
    let y = c.number-2 in
    c.between.ensures
    ∙ rw (back32 x.result x.type_inv, x.ensures, to_z-of_z c.ranges.z, back32 y.result y.type_inv, y.ensures)
