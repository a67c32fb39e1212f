-- `mark` says 1 for true and 0 for false. Assumes nothing.
use mathlib.Core.Path.{◌∙◌}
use Rattle.numbers.proofs.Laws.{back32}
use Rattle.saved.proofs.Storing.{mark_byte}
use Rattle.saved.proofs.mark.Goals as goal

pub returns : goal.returns
returns c = back32 _ c.from.type_inv ∙ c.from.ensures ∙ mark_byte c.args.b
