use Rattle.std.proofs.Common.{◌≤◌, ◌-◌}
use Rattle.sizes.specs.Sizes.{VARIABLES}
use Rattle.call_vectors.proofs.saved.values_from.Given as goal

abbrev pub invariant-loop-k : goal.invariant-loop-k
invariant-loop-k l = l.k ≤ VARIABLES

abbrev pub decreases-loop-k : goal.decreases-loop-k
decreases-loop-k l = VARIABLES - l.k
