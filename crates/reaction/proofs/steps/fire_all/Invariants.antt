use Rattle.choice.specs.Choice.{picked}
use Rattle.meaning.specs.Value.{chart_of}
use Rattle.reaction.proofs.Firing.{Firing}
use Rattle.reaction.proofs.steps.fire_all.Given as goal

abbrev pub invariant-loop-pick : goal.invariant-loop-pick
invariant-loop-pick l =
    Firing (chart_of l.c.chart.now) l.arg (picked l.count l.picks) l.initial.widget l.initial.trace l.initial.next l.pick-index l.widget l.trace l.next
