-- `with_queue` changes the queue alone. Assumes nothing.
use mathlib.Core.Path.{refl}
use Rattle.meaning.specs.Widget.{set_queue}
use Rattle.queue_calls.proofs.answers.with_queue.Goals as goal

pub returns : goal.returns
unfolding set_queue
returns c = refl
