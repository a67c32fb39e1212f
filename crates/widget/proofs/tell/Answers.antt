-- `tell` writes the entry of a number told. Assumes nothing.
use mir.Facts.{to_z-of_z}
use Rattle.widget.proofs.Effects.{notes}
use Rattle.widget.proofs.tell.Goals as goal

pub returns : goal.returns
returns c = λ u. notes _ (rw (to_z-of_z c.ranges.x) at c.write.ensures)
