use Rattle.std.proofs.Common.{◌≤◌, ◌-◌}
use Rattle.sizes.specs.Sizes.{QUEUE}
use Rattle.call_vectors.proofs.saved.queue_from.Given as goal

abbrev pub invariant-loop-k : goal.invariant-loop-k
invariant-loop-k l = l.k ≤ QUEUE

abbrev pub decreases-loop-k : goal.decreases-loop-k
decreases-loop-k l = QUEUE - l.k
