use mathlib.Core.Path.{◌≡◌}
use Rattle.meaning.specs.Value.{chart_of}
use Rattle.meaning.specs.Tree.{scope}
use Rattle.tree.proofs.walks.scope.Given as goal

abbrev pub invariant-loop-x : goal.invariant-loop-x
invariant-loop-x l = scope (chart_of l.chart) l.x l.t ≡ scope (chart_of l.chart) l.s l.t

abbrev pub decreases-loop-x : goal.decreases-loop-x
decreases-loop-x l = l.x
