use Rattle.std.proofs.Common.{length, ◌≤◌, ◌≡◌, ◌+◌}
use Rattle.meaning.specs.Program.{ROOM}
use Rattle.session.specs.Turned.{LARGEST}
use Rattle.trace.proofs.read_all.Given as goal

-- Room for one more report.
abbrev pub invariant-parts : goal.invariant-parts
invariant-parts g l = (length l.out ≡ length l.fn.out) × (l.now.at + LARGEST ≤ length l.out) × (length l.trace ≡ ROOM)
