use Rattle.console.proofs.Stretch.{Collecting}
use Rattle.console.proofs.scan.collect.Given as goal

abbrev pub invariant-loop-i : goal.invariant-loop-i
invariant-loop-i l = Collecting l.part l.from l.initial.line l.i l.line
