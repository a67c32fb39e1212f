-- `store_queue` writes the queue as it is lent, and then its own length. Assumes nothing.
use mathlib.Core.Path.{◌≡◌, ap, ◌∙◌}
use lib.ListN.{length}
use lib.Seq.{paste}
use Rattle.sizes.specs.Sizes.{QUEUE}
use Rattle.numbers.proofs.Laws.{back32}
use Rattle.queue.specs.Numbers.{QUEUE_NUMBERS}
use Rattle.promises.specs.Saved.{LENGTH_AT}
use Rattle.saved.proofs.Storing.{length_written}
use Rattle.saved.proofs.store_queue.Goals.{Start}
use Rattle.saved.proofs.store_queue.Goals as goal

long : (c : Start) → length c.args.queue.items ≡ QUEUE
long c = c.well_formed.0.1.1.1.0.1.0.1

pub returns : goal.returns
returns c =
    length_written c.args.numbers.now _ c.args.queue _ (long (goal.at.returns c).Start) c.requires
    (c.copy.ensures ∙ ap (λ l. paste c.args.numbers.now LENGTH_AT l QUEUE_NUMBERS)
    c.lend-waiting.ensures)
    (back32 _ c.small-len.type_inv ∙ c.small-len.ensures)
