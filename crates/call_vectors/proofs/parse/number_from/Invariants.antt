use Rattle.std.proofs.Common.{length, ◌-◌}
use Rattle.call_vectors.proofs.parse.number_from.Given as goal

abbrev pub decreases-loop-i : goal.decreases-loop-i
decreases-loop-i l = length l.text - l.i
