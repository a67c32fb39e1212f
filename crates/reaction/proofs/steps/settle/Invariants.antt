use Rattle.std.proofs.Common.{◌≡◌, ◌-◌, ◌+◌, length}
use Rattle.sizes.specs.Sizes.{NULL_STEPS, TRANSITIONS}
use Rattle.meaning.specs.Value.{chart_of}
use Rattle.reaction.proofs.Settling.{Settling}
use Rattle.reaction.proofs.steps.settle.Given as goal

abbrev pub invariant-loop-picks : goal.invariant-loop-picks
invariant-loop-picks l =
    Settling (chart_of l.c.chart.now) l.initial.widget l.initial.trace l.initial.next l.turns l.widget l.trace l.next
    × (length l.picks ≡ TRANSITIONS)

abbrev pub decreases-loop-picks : goal.decreases-loop-picks
decreases-loop-picks l = NULL_STEPS + 1 - l.turns
