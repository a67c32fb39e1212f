-- `done` answers 0 with no entry. Assumes nothing.
use mathlib.Core.Path.{refl}
use Rattle.meaning.specs.Calls.{called}
use Rattle.queue_calls.specs.Parts.{quiet}
use Rattle.queue_calls.proofs.answers.done.Goals as goal

pub returns : goal.returns
unfolding called quiet
returns c = refl
