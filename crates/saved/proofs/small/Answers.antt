-- `small` is the number itself below 2^31, else -1. Assumes nothing.
use mathlib.Core.Path.{◌∙◌}
use Rattle.numbers.proofs.Laws.{back32}
use Rattle.saved.proofs.Inverse.{small_from}
use Rattle.saved.proofs.small.Goals as goal

pub returns : goal.returns
returns c = back32 _ c.unwrap_or.type_inv ∙ c.unwrap_or.ensures ∙ small_from c.args.n _ c.try_from.ensures
