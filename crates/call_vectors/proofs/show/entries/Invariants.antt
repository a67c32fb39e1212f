use Rattle.std.proofs.Common.{length, ◌≤◌}
use Rattle.call_vectors.proofs.show.entries.Given as goal

-- What was shown is within the trace.
abbrev pub invariant-loop-left : goal.invariant-loop-left
invariant-loop-left g l = l.i ≤ length l.trace

abbrev pub decreases-loop-left : goal.decreases-loop-left
decreases-loop-left g l = l.left
