use Rattle.std.proofs.Common.{length, ◌≤◌, ◌-◌}
use Rattle.call_vectors.proofs.parse.line_after.Given as goal

-- The place never goes back.
abbrev pub invariant-loop-i : goal.invariant-loop-i
invariant-loop-i l = l.fn.at ≤ l.i

abbrev pub decreases-loop-i : goal.decreases-loop-i
decreases-loop-i l = length l.text - l.i
