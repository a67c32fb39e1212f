-- `qh_examine` tells whether the numbers are a plan. Assumes nothing.
use mathlib.Core.Path.{refl, ◌∙◌}
use Rattle.numbers.proofs.Laws.{back32}
use Rattle.telling.proofs.Told.{told_as}
use Rattle.boundary.proofs.qh_examine.Goals as goal

pub returns : goal.returns
returns c = told_as (back32 _ c.tell.type_inv) (c.from-examined.ensures ∙ c.examine.ensures.result) refl c.tell.ensures
