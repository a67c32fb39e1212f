use Rattle.std.proofs.Common.{length, ◌-◌}
use Rattle.call_vectors.proofs.one_after_another.Given as goal

-- Each turn goes on by a line at least.
abbrev pub decreases-loop-at : goal.decreases-loop-at
decreases-loop-at g l = length l.calls - l.at
