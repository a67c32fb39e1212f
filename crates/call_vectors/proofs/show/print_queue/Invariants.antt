use Rattle.std.proofs.Common.{◌≤◌, ◌-◌}
use Rattle.sizes.specs.Sizes.{QUEUE}
use Rattle.call_vectors.proofs.show.print_queue.Given as goal

abbrev pub invariant-loop-k : goal.invariant-loop-k
invariant-loop-k g l = l.k ≤ QUEUE

abbrev pub decreases-loop-k : goal.decreases-loop-k
decreases-loop-k g l = QUEUE - l.k
