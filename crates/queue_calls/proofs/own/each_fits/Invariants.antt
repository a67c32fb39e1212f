use mathlib.Core.Path.{◌≡◌}
use Rattle.meaning.specs.Value.{chart_of}
use Prim.Native.Nat.{◌≤◌}
use lib.ListN.{drop}
use Rattle.sizes.specs.Sizes.{STATES}
use Rattle.meaning.specs.declared.State.{State}
use Rattle.meaning.specs.Lists.{every, from}
use Rattle.queue_calls.proofs.Slots.{slot_right}
use Rattle.queue_calls.proofs.own.each_fits.Given as goal

abbrev pub invariant-loop-s : goal.invariant-loop-s
invariant-loop-s l =
    (l.s ≤ l.end)
    × ((u : State) → u.slots ≡ l.slots
    → every (slot_right l.whole (chart_of l.chart) u) (drop l.s (from 0 STATES)) ≡ every (slot_right l.whole (chart_of l.chart) u) (from 0 STATES))
