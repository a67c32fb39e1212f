use Rattle.leave_enter.proofs.Falling.{Leaving}
use Rattle.leave_enter.proofs.leaving.leave_below.Given as goal

abbrev pub invariant-loop-d : goal.invariant-loop-d
invariant-loop-d l = Leaving l.c.chart.now l.arg l.s l.initial.widget l.initial.trace l.initial.next l.d l.widget l.trace l.next
