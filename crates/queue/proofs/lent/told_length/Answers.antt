-- `told_length` tells a length as a number. Assumes nothing.
use mathlib.Core.Path.{◌∙◌, sym, ap}
use Rattle.numbers.proofs.Laws.{back32}
use lib.IntN.{pos}
use Rattle.queue.proofs.Numbers.{told_is, told_over}
use Rattle.queue.proofs.lent.told_length.Goals as goal

pub returns-then-len-gt-QUEUE : goal.returns-then-len-gt-QUEUE
returns-then-len-gt-QUEUE c = back32 _ c.number.type_inv ∙ c.number.ensures ∙ ap pos (sym (told_over _ c.if-len-gt-QUEUE.true))

pub returns : goal.returns
returns c = back32 _ c.number-2.type_inv ∙ c.number-2.ensures ∙ ap pos (sym (told_is _ c.if-len-gt-QUEUE.false))
