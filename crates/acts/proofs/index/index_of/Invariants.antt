use Rattle.meaning.specs.Value.{chart_of}
use Rattle.acts.proofs.Finding.{Building}
use Rattle.acts.proofs.index.index_of.Given as goal

abbrev pub invariant-loop-i : goal.invariant-loop-i
invariant-loop-i l = Building (chart_of l.chart) l.i l.index
