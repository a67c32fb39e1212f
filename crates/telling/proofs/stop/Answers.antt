-- `stop` stores what was done and tells three numbers. Assumes nothing.
use mathlib.Core.Path.{◌∙◌}
use Rattle.numbers.proofs.Laws.{back32}
use Rattle.telling.proofs.Told.{three}
use Rattle.telling.proofs.stop.Goals as goal

pub returns : goal.returns
returns c = record {
  answer = back32 _ c.small-2.type_inv ∙ c.small-2.ensures;
  told = three (back32 _ c.small.type_inv ∙ c.small.ensures) (back32 _ c.small-entries.type_inv ∙ c.small-entries.ensures)
      (back32 _ c.small-done.type_inv ∙ c.small-done.ensures);
  widget = c.move_on.ensures;
}
