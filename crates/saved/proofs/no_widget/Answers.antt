-- `no_widget` is a widget with no state active. Assumes nothing.
use Rattle.promises.specs.Saved.{no_widget}
use Rattle.saved.proofs.no_widget.Goals as goal

pub returns : goal.returns
unfolding no_widget
returns c = rw c.empty.ensures
