-- `plan_end` is the place after the instructions. Assumes nothing.
use native.Mathlib.Omega.{arith}
use Rattle.meaning.specs.WellFormed.{heads_at, code_at, plan_end}
use Rattle.plan_rows.proofs.plan_end.Goals as goal

pub overflow_add-result : goal.overflow_add-result
unfolding code_at heads_at
overflow_add-result c = omega arith

pub returns : goal.returns
unfolding plan_end
returns c = omega arith
