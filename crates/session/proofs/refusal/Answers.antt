-- `refusal` prints an answer and no entry, and leaves the widget as it was. Assumes nothing.
use mathlib.Core.Path.{refl}
use Rattle.session.proofs.Steps.{none_takes}
use Rattle.session.proofs.refusal.Goals as goal

pub returns : goal.returns
returns c = none_takes _ _ _ _ _ _ _ refl c.report-place.ensures
