-- `sum` is exact: two i32 sum to what fits an i64. Assumes nothing.
use mathlib.Core.Path.{◌≡◌, ◌∙◌}
use Rattle.numbers.proofs.Laws.{fits_sum, back64}
use mir.Facts.{to_z-of_z}
use Rattle.numbers.proofs.sum.Goals.{After-wide-2}
use Rattle.numbers.proofs.sum.Goals as goal

-- what each call gives is its argument
first : (c : After-wide-2) → c.wide.result ≡ c.args.x
first c = c.wide.ensures ∙ to_z-of_z c.ranges.x

second : (c : After-wide-2) → c.wide-2.result ≡ c.args.y
second c = c.wide-2.ensures ∙ to_z-of_z c.ranges.y

pub overflow_add-result : goal.overflow_add-result
overflow_add-result c =
    rw (back64 c.wide.result c.wide.type_inv, back64 c.wide-2.result c.wide-2.type_inv, first c, second c)
    (fits_sum c.ranges.x c.ranges.y)

pub returns : goal.returns
returns c =
    rw (back64 c.wide.result c.wide.type_inv, back64 c.wide-2.result c.wide-2.type_inv, first c, second c)
    (to_z-of_z (fits_sum c.ranges.x c.ranges.y))
