-- `refused` leaves the state as it was. Assumes nothing.
use mathlib.Core.Path.{refl}
use Rattle.meaning.specs.Calls.{called, as_found}
use Rattle.queue_calls.proofs.answers.refused.Goals as goal

pub returns : goal.returns
unfolding called as_found
returns c = refl
