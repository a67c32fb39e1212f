-- What a plan that is not cut short gives: counts within their sizes, and room for each of its parts. Assumes nothing.
use Prim.Native.Nat.{◌+◌, ◌*◌, ◌<◌, ◌≤◌}
use mathlib.Core.Path.{◌≡◌}
use mathlib.Core.List.{List}
use native.Mathlib.Omega.{arith}
use lib.IntN.{ℤ}
use lib.ListN.{length}
use Rattle.numbers.specs.Reference.{ref, NOWHERE}
use Rattle.meaning.specs.declared.plan.Counts.{Counts}
use Rattle.meaning.specs.Value.{num, VAR_ROW}
use Rattle.meaning.specs.WellFormed.{SIX, HEAD_ROW, INSTR_ROW, counts_of, heads_at, code_at, plan_end}
use Rattle.plan_rows.specs.Rows.{Sized}
use Rattle.plan_rows.proofs.Rows.{sized}
use Rattle.examiner.specs.Examined.{Whole}

module _ (ns : List ℤ) (k : Counts) (w : Whole ns k) where
  pub whole_sized : Sized k
  whole_sized = rw w.counted (sized ns)

  pub whole_start : k.start ≡ ref (num ns 5)
  unfolding counts_of
  whole_start = rw w.counted

  pub whole_few : k.instructions < NOWHERE
  whole_few = let s = whole_sized in omega arith

  pub vars_there : SIX + k.vars * VAR_ROW ≤ length ns
  unfolding plan_end code_at heads_at
  vars_there = omega arith

  pub heads_there : heads_at k + k.heads * HEAD_ROW ≤ length ns
  unfolding plan_end code_at
  heads_there = omega arith

  pub code_there : code_at k + k.instructions * INSTR_ROW ≤ length ns
  unfolding plan_end
  code_there = w.whole
