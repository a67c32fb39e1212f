-- Numbers that the examination accepts begin with a well-formed plan. Assumes nothing.
use mathlib.Core.Path.{◌≡◌, ap, refl, sym, ◌∙◌}
use native.Mathlib.Omega.{arith}
use mathlib.Core.Bool.{Bool, false, true}
use mathlib.Core.List.{List}
use lib.IntN.{ℤ}
use Rattle.meaning.specs.WellFormed.{well_formed}
use Rattle.meaning.specs.declared.Answer.{Answer}
use Rattle.promises.specs.Promises.{Examined, Planned, plan_verdict}

pub was_passed : (ns : List ℤ) {r : Answer} → Examined ns r → r.number ≡ 0 → Planned ns
unfolding plan_verdict
was_passed ns {r} e z = go (well_formed ns) (ap (λ (a : Answer). a.number) (sym e.result) ∙ z)
  where
    go : (b : Bool) → (plan_verdict b).number ≡ 0 → b ≡ true
    go true y = refl
    go false y = absurd (omega (arith, y))
