use Rattle.meaning.specs.Value.{chart_of}
use Rattle.compiler.proofs.Heading.{Heading}
use Rattle.compiler.proofs.heads.put_heads.Given as goal

abbrev pub invariant-loop-t : goal.invariant-loop-t
invariant-loop-t l = Heading (chart_of l.c.chart.now) l.start l.initial.plan l.at l.t-index l.plan l.p l.from
