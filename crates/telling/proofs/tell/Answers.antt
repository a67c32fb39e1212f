-- `tell` hands the answer back and writes place and count. Assumes nothing.
use mathlib.Core.Path.{◌∙◌}
use Rattle.numbers.proofs.Laws.{back32}
use Rattle.telling.proofs.Told.{two}
use Rattle.telling.proofs.tell.Goals as goal

pub returns : goal.returns
returns c = record {
  answer = back32 _ c.small-3.type_inv ∙ c.small-3.ensures;
  told = two (back32 _ c.small.type_inv ∙ c.small.ensures) (back32 _ c.small-2.type_inv ∙ c.small-2.ensures);
}
