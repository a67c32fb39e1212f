-- `reader::order::line_of_kind`: a line in its place is read as its kind says, any other is wrong. Assumes nothing.
use mathlib.Core.Path.{sym, ◌∙◌}
use native.Mathlib.Omega.{arith}
use Rattle.reader.proofs.OrderLaws.{misplaced, read_in_place, place_within}
use Rattle.reader.proofs.order.line_of_kind.Goals as goal

pub overflow_mul-at : goal.overflow_mul-at
overflow_mul-at c =
    let w = place_within _ _ _ _ c.requires c.of-n.ensures c.area-area.ensures in let h = w.1 in record { fits = omega arith }

pub overflow_add-at : goal.overflow_add-at
overflow_add-at c =
    let w = place_within _ _ _ _ c.requires c.of-n.ensures c.area-area.ensures in let h = w.2 in record { fits = omega arith }

pub line-requires : goal.line-requires
line-requires c = let w = place_within _ _ _ _ c.requires c.of-n.ensures c.area-area.ensures in let h = w.2 in omega arith

pub returns-then-not-placed : goal.returns-then-not-placed
returns-then-not-placed c = misplaced _ _ _ _ (sym c.placed.ensures ∙ c.if-not-placed.true)

pub returns : goal.returns
returns c =
    read_in_place _ _ _ _ _ _ _ _ _ (sym c.placed.ensures ∙ c.if-not-placed.false) c.of-n.ensures
    c.area-area.ensures c.begins.ensures.0 c.line.ensures
