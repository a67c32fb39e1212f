use mathlib.Core.Path.{◌≡◌}
use Rattle.meaning.specs.Value.{chart_of}
use Prim.Native.Nat.{◌≤◌}
use lib.ListN.{drop}
use Rattle.meaning.specs.declared.State.{State}
use Rattle.meaning.specs.Lists.{every, from}
use Rattle.meaning.specs.Foreign.{legal_at}
use Rattle.queue_calls.proofs.own.legal.Given as goal

abbrev pub invariant-loop-s : goal.invariant-loop-s
invariant-loop-s l =
    (l.s ≤ l.n)
    × ((u : State) → u.active ≡ l.active → every (legal_at (chart_of l.chart) u) (drop l.s (from 0 l.n)) ≡ every (legal_at (chart_of l.chart) u)
    (from 0 l.n))
