use mathlib.Core.Path.{◌≡◌}
use Prim.Native.Nat.{◌-◌}
use lib.ListN.{length}
use Rattle.meaning.specs.Value.{chart_of}
use Rattle.meaning.specs.Program.{ROOM, do_line}
use Rattle.session.specs.Turned.{seen}
use Rattle.session.proofs.WalkLaws.{Walking}
use Rattle.session.proofs.walk.Given as goal

abbrev pub invariant-loop-i : goal.invariant-loop-i
invariant-loop-i l =
    Walking (do_line (chart_of l.chart)) l.part l.from (seen l.initial.now) l.initial.out l.initial.now.at l.i l.out l.now × (length l.trace ≡ ROOM)

abbrev pub decreases-loop-i : goal.decreases-loop-i
decreases-loop-i l = length l.part - l.i
