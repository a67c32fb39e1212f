use mathlib.Core.Path.{◌≡◌}
use Rattle.meaning.specs.Value.{chart_of}
use Rattle.tree.specs.Courses.{path_child}
use Rattle.tree.proofs.walks.path_child.Given as goal

abbrev pub invariant-loop-x : goal.invariant-loop-x
invariant-loop-x l = path_child (chart_of l.chart) l.s l.x ≡ path_child (chart_of l.chart) l.s l.t

abbrev pub decreases-loop-x : goal.decreases-loop-x
decreases-loop-x l = l.x
