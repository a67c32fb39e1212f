-- `append` equals `appended` on every queue: where a place is left the store is in range, and a full queue is handed back. Assumes nothing.
use borrow.Author.Tests.{le-ltb, lt-ltb}
use mir.Facts.{to_z-of_z}
use Rattle.sizes.specs.Sizes.{QUEUE}
use Rattle.queue.specs.Queue.{appended}
use Rattle.queue.proofs.Queue.append.Goals as goal

pub returns-then-at-ge-QUEUE : goal.returns-then-at-ge-QUEUE
unfolding appended
returns-then-at-ge-QUEUE c = rw (le-ltb c.args.self.len QUEUE c.if-at-ge-QUEUE.true)

pub returns : goal.returns
unfolding appended
returns c =
    rw (
      lt-ltb c.args.self.len QUEUE c.if-at-ge-QUEUE.false,
      to_z-of_z c.ranges.event,
      to_z-of_z c.ranges.arg,
    )
