use Rattle.meaning.specs.Value.{chart_of}
use Rattle.compiler.proofs.Heading.{Blocking}
use Rattle.compiler.proofs.put_blocks.Given as goal

abbrev pub invariant-loop-t : goal.invariant-loop-t
invariant-loop-t l = Blocking (chart_of l.c.chart.now) l.initial.plan l.at l.t-index l.plan l.p
