use Prim.Native.Nat.{◌-◌}
use Rattle.plan_code.specs.Code.{Passed}
use Rattle.plan_code.proofs.pass_skips.Given as goal

abbrev pub invariant-loop-row : goal.invariant-loop-row
invariant-loop-row l = Passed l.plan l.end l.from l.active l.row

abbrev pub decreases-loop-row : goal.decreases-loop-row
decreases-loop-row l = l.end - l.row
