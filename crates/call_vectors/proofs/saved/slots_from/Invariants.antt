use Rattle.std.proofs.Common.{◌≤◌, ◌-◌}
use Rattle.sizes.specs.Sizes.{STATES}
use Rattle.call_vectors.proofs.saved.slots_from.Given as goal

abbrev pub invariant-loop-k : goal.invariant-loop-k
invariant-loop-k l = l.k ≤ STATES

abbrev pub decreases-loop-k : goal.decreases-loop-k
decreases-loop-k l = STATES - l.k
