use Prim.Native.Nat.{◌+◌, ◌-◌}
use Rattle.meaning.specs.WellFormed.{plan_by}
use Rattle.plan_code.proofs.Walk.{Standing}
use Rattle.plan_code.proofs.run_block.Given as goal

abbrev pub invariant-loop-row : goal.invariant-loop-row
invariant-loop-row l =
    Standing (plan_by l.plan.numbers.now).vars l.arg (plan_by l.plan.numbers.now).code l.base (l.start + l.len) l.start
    l.initial.widget l.initial.trace l.initial.next l.row l.widget l.trace l.next

abbrev pub decreases-loop-row : goal.decreases-loop-row
decreases-loop-row l = l.end - l.row
