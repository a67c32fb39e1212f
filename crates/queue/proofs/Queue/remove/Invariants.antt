use Rattle.std.proofs.Common.{◌≡◌, List, drop, replicate}
use Rattle.queue.proofs.Copy.{copied}
use Rattle.queue.specs.Queue.{no_item}
use Rattle.sizes.specs.Sizes.{QUEUE}
use Rattle.queue.specs.declared.Item.{Item}
use Rattle.queue.proofs.Queue.remove.Given as goal

abbrev pub free : List Item
free = replicate QUEUE no_item

abbrev pub invariant-loop-i : goal.invariant-loop-i
invariant-loop-i l = l.rest ≡ copied free (drop 1 l.self.items) l.i
