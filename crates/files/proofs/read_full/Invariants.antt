use Rattle.std.proofs.Common.{length, ◌-◌, ◌≤◌}
use Rattle.files.proofs.read_full.Given as goal

-- What was read so far fits.
abbrev pub invariant-loop-done : goal.invariant-loop-done
invariant-loop-done g l = l.done ≤ length l.buffer

-- The room that is left, where a read that moves nothing ends the loop.
abbrev pub decreases-loop-done : goal.decreases-loop-done
decreases-loop-done g l = length l.initial.buffer - l.done
