-- What the examination of a plan promises (01, "Answer numbers"), and what its parts ask of the plan that is lent. Assumes nothing.
use Rattle.std.specs.Prelude.{◌≤◌, cond, ◌≡◌, List, length, ℤ}
use Rattle.meaning.specs.declared.Answer.{Answer}
use Rattle.meaning.specs.declared.plan.Counts.{Counts}
use Rattle.meaning.specs.WellFormed.{counts_of, plan_end, well_formed}

-- 0 "done", 5 "a plan is cut short or not well formed; numbers past its end are ignored"
unfoldable pub examined : List ℤ → Answer
examined ns = cond (well_formed ns) (record { number = 0; place = 0 }) (record { number = 5; place = 0 })

-- these are the plan's counts, and each number that they promise is there
pub record Whole (ns : List ℤ) (k : Counts) : Type 0 where
  pub counted : k ≡ counts_of ns
  pub whole : plan_end k ≤ length ns
