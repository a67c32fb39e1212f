use Rattle.std.proofs.Common.{length, ◌-◌}
use Rattle.call_vectors.proofs.parse.joined.Given as goal

abbrev pub decreases-loop-i : goal.decreases-loop-i
decreases-loop-i l = length l.word - l.i
