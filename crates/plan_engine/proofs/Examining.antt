-- The examiner's answer is the promised one: 0 for a well-formed plan, else 5. Assumes nothing.
use mathlib.Core.Path.{◌∙◌, ◌≡◌, refl}
use mathlib.Core.Bool.{Bool, cond, false, true}
use mathlib.Core.List.{List}
use lib.IntN.{ℤ}
use Rattle.examiner.specs.Examined.{examined}
use Rattle.meaning.specs.WellFormed.{well_formed}
use Rattle.meaning.specs.declared.Answer.{Answer}
use Rattle.promises.specs.Promises.{Examined, plan_verdict}

pub by_verdict : (ns : List ℤ) {r : Answer} → r ≡ examined ns → Examined ns r
unfolding examined plan_verdict
by_verdict ns e = record { result = e ∙ go (well_formed ns) }
  where
    go : (b : Bool) → cond b (record { number = 0; place = 0 }) (record { number = 5; place = 0 }) ≡ plan_verdict b
    go true = refl
    go false = refl
