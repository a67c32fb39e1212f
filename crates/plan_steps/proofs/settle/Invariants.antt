use Prim.Native.Nat.{◌-◌}
use Rattle.sizes.specs.Sizes.{NULL_STEPS}
use Rattle.meaning.specs.WellFormed.{plan_by}
use Rattle.plan_steps.proofs.Settling.{Settling}
use Rattle.plan_steps.proofs.settle.Given as goal

abbrev pub invariant-loop-count : goal.invariant-loop-count
invariant-loop-count l =
    Settling (plan_by l.plan.numbers.now) l.initial.widget l.initial.trace l.initial.next l.turns l.widget l.trace l.next

abbrev pub decreases-loop-count : goal.decreases-loop-count
decreases-loop-count l = NULL_STEPS - l.turns
