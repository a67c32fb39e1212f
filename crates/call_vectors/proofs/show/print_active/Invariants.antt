use Rattle.std.proofs.Common.{◌≤◌, ◌-◌}
use Rattle.sizes.specs.Sizes.{STATES}
use Rattle.call_vectors.proofs.show.print_active.Given as goal

abbrev pub invariant-loop-k : goal.invariant-loop-k
invariant-loop-k g l = l.k ≤ STATES

abbrev pub decreases-loop-k : goal.decreases-loop-k
decreases-loop-k g l = STATES - l.k
