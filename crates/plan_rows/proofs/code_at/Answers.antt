-- `code_at` is the place after the heads. Assumes nothing.
use native.Mathlib.Omega.{arith}
use Rattle.meaning.specs.WellFormed.{heads_at, code_at}
use Rattle.plan_rows.proofs.code_at.Goals as goal

pub overflow_add-result : goal.overflow_add-result
unfolding heads_at
overflow_add-result c = omega arith

pub returns : goal.returns
unfolding code_at
returns c = omega arith
