use Rattle.meaning.specs.Value.{chart_of}
use Rattle.rules.specs.Family.{Family}
use Rattle.rules.proofs.states.count_children.Given as goal

abbrev pub invariant-loop-d : goal.invariant-loop-d
invariant-loop-d l = Family (chart_of l.chart) l.d l.families
