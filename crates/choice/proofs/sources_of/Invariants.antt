use mathlib.Core.Path.{◌≡◌}
use Prim.Native.Nat.{◌-◌, ◌≤◌}
use lib.ListN.{length}
use Rattle.sizes.specs.Sizes.{STATES}
use Rattle.meaning.specs.Value.{chart_of}
use Rattle.choice.proofs.Rows.{Marking}
use Rattle.choice.proofs.sources_of.Given as goal

abbrev pub invariant-loop-t : goal.invariant-loop-t
invariant-loop-t l = Marking (chart_of l.chart) l.event l.active l.t l.sources × (length l.sources ≡ STATES) × (l.t ≤ l.n)

abbrev pub decreases-loop-t : goal.decreases-loop-t
decreases-loop-t l = l.n - l.t
