use mathlib.Core.Path.{◌≡◌}
use Prim.Native.Nat.{◌+◌, ◌≤◌, ◌-◌}
use lib.ListN.{length}
use Rattle.meaning.specs.Value.{chart_of}
use Rattle.meaning.specs.Program.{ROOM, do_line}
use Rattle.session.specs.Turned.{LARGEST, seen}
use Rattle.trace.proofs.Feeding.{Feeding}
use Rattle.trace.proofs.feed_all.Given as goal

abbrev pub invariant-loop-i : goal.invariant-loop-i
invariant-loop-i g l =
    Feeding (do_line (chart_of l.chart)) l.part (seen l.fn.under) l.i (seen l.now) × (length l.out ≡ length l.fn.out) × (l.now.at + LARGEST ≤ length l.out)
    × (length l.trace ≡ ROOM)

abbrev pub decreases-loop-i : goal.decreases-loop-i
decreases-loop-i g l = length l.part - l.i
