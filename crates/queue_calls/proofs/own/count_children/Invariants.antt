use Rattle.meaning.specs.Value.{chart_of}
use Rattle.queue_calls.proofs.Legal.{Tallying}
use Rattle.queue_calls.proofs.own.count_children.Given as goal

abbrev pub invariant-loop-d : goal.invariant-loop-d
invariant-loop-d l = Tallying (chart_of l.chart) l.active l.n l.d l.tallies
