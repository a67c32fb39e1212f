-- `mark_taken` writes the entry of a transition taken. Assumes nothing.
use Rattle.widget.proofs.Effects.{notes}
use Rattle.widget.proofs.mark_taken.Goals as goal

pub returns : goal.returns
returns c = λ u. notes _ c.write.ensures
