-- `reader::order::counted`: a letter that names no kind counts nothing. Assumes nothing.
use mathlib.Core.Path.{refl}
use Rattle.reader.specs.Order.{turns_after}
use Rattle.reader.proofs.order.counted.Goals as goal

pub returns-in-None : goal.returns-in-None
unfolding turns_after
returns-in-None c = rw (← c.in-None.ensures) refl
