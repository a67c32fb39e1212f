use mathlib.Core.Path.{◌≡◌}
use Prim.Native.Nat.{◌≤◌}
use lib.ListN.{length}
use Rattle.meaning.specs.declared.State.{State}
use Rattle.meaning.specs.Value.{chart_of}
use Rattle.queue_calls.proofs.Components.{Leading}
use Rattle.queue_calls.proofs.own.components_filled.Given as goal

abbrev pub invariant-loop-d : goal.invariant-loop-d
invariant-loop-d l =
    (1 ≤ l.d) × (l.n ≡ length (chart_of l.chart).states) × ((u : State) → u.slots ≡ l.slots → Leading (chart_of l.chart) u l.n l.d)
