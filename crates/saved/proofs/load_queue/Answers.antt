-- `load_queue` copies the queue's numbers and holds them. Assumes nothing.
use mathlib.Core.Path.{refl, ap, ◌∙◌}
use lib.IntN.{pos}
use lib.ListN.{replicate}
use Rattle.queue.specs.Numbers.{QUEUE_NUMBERS, queue_by}
use Rattle.promises.specs.Saved.{LENGTH_AT}
use Rattle.saved.proofs.Loading.{copied_part}
use Rattle.saved.proofs.load_queue.Goals as goal

pub returns : goal.returns
returns c =
    c.held.ensures
    ∙ ap queue_by (copied_part (replicate QUEUE_NUMBERS (pos 0))
    c.args.numbers.now _ LENGTH_AT QUEUE_NUMBERS refl
    c.copy.ensures)
