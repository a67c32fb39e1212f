use lib.ListN.{length}
use Rattle.meaning.specs.Tree.{descendants}
use Rattle.meaning.specs.Value.{chart_of}
use Rattle.tree.specs.Courses.{way_by}
use Rattle.leave_enter.proofs.Descending.{Going}
use Rattle.leave_enter.proofs.entering.+descend.Given as goal

abbrev pub decreases-descend : goal.decreases-descend
decreases-descend l = length (descendants (chart_of l.c.now.chart.now) l.s)

abbrev pub invariant-loop-d : goal.invariant-loop-d
invariant-loop-d l =
    Going (chart_of l.c.chart.now) l.arg l.course (way_by l.next) l.s l.d-end l.initial.widget l.initial.trace l.initial.then l.d
    l.widget l.trace l.then
