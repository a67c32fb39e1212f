use Rattle.std.proofs.Common.{◌≤◌, ◌-◌}
use Rattle.sizes.specs.Sizes.{VARIABLES}
use Rattle.call_vectors.proofs.show.print_variables.Given as goal

abbrev pub invariant-loop-k : goal.invariant-loop-k
invariant-loop-k g l = l.k ≤ VARIABLES

abbrev pub decreases-loop-k : goal.decreases-loop-k
decreases-loop-k g l = VARIABLES - l.k
