-- `count_fits` is the test for a range. Assumes nothing.
use mathlib.Core.Path.{◌∙◌}
use Rattle.numbers.specs.Range.{within}
use Rattle.numbers.proofs.Laws.{back32}
use Rattle.rules.proofs.value.count_fits.Goals as goal

pub returns : goal.returns
unfolding within
returns c =
    let x = c.number in
    let y = c.number_at in
    let z = c.number-2 in
    c.between.ensures
    ∙ rw (back32 x.result x.type_inv, x.ensures, back32 y.result y.type_inv, y.ensures, back32 z.result z.type_inv, z.ensures)
