use mathlib.Core.Path.{◌≡◌}
use Prim.Native.Nat.{◌-◌}
use Rattle.meaning.specs.Lists.{has}
use Rattle.meaning.specs.Tree.{climb, ancestors}
use Rattle.meaning.specs.Value.{chart_of}
use Rattle.tree.proofs.kin.is_ancestor.Given as goal

abbrev pub invariant-loop-step : goal.invariant-loop-step
invariant-loop-step l = has l.a (climb (chart_of l.chart) (l.d - l._step) l.at) ≡ has l.a (ancestors (chart_of l.chart) l.d)
