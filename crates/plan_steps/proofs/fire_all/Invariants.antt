use Rattle.meaning.specs.Machine.{fire_head}
use Rattle.meaning.specs.Steps.{each}
use Rattle.meaning.specs.WellFormed.{heads_at, plan_by}
use lib.ListN.{drop}
use Rattle.widget.specs.View.{Owes}
use Rattle.plan_steps.proofs.Firing.{heads_of}
use Rattle.plan_steps.proofs.fire_all.Given as goal

abbrev pub invariant-loop-h : goal.invariant-loop-h
invariant-loop-h l =
    Owes (each (fire_head (plan_by l.plan.numbers.now) l.arg) (heads_of l.plan.numbers.now (heads_at l.plan.counts) l.picks))
    l.initial.widget l.initial.trace l.initial.next
    (each (fire_head (plan_by l.plan.numbers.now) l.arg) (drop l.h-index (heads_of l.plan.numbers.now (heads_at l.plan.counts) l.picks)))
    l.widget l.trace l.next
