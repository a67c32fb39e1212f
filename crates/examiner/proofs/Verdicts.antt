-- What a caller learns from the examination's answer: 0 says that the plan is well formed, and so all the plain facts of one; any other
-- says that it is not. Assumes nothing.
use mathlib.Core.Path.{◌≡◌, refl}
use mathlib.Core.Bool.{Bool, true, false, cond}
use mathlib.Core.List.{List}
use native.Mathlib.Omega.{arith}
use lib.IntN.{ℤ}
use Rattle.meaning.specs.declared.Answer.{Answer}
use Rattle.meaning.specs.WellFormed.{well_formed}
use Rattle.plan_rows.proofs.Well.{Well, well}
use Rattle.examiner.specs.Examined.{examined}

-- the two answers
module _ (ns : List ℤ) where
  pub answer_done : well_formed ns ≡ true → record { number = 0; place = 0 } ≡ examined ns
  unfolding examined
  answer_done e = rw e

  pub answer_malformed : well_formed ns ≡ false → record { number = 5; place = 0 } ≡ examined ns
  unfolding examined
  answer_malformed e = rw e

-- what each says
module _ (ns : List ℤ) (a : Answer) (e : a ≡ examined ns) where
  pub passed : a.number ≡ 0 → well_formed ns ≡ true
  unfolding examined
  passed z = go (well_formed ns) e
    where
      go : (b : Bool) → a ≡ cond b (record { number = 0; place = 0 }) (record { number = 5; place = 0 }) → b ≡ true
      go true f = refl
      go false f = let n : a.number ≡ 5 = rw f in absurd (omega arith)

  pub failed : (a.number ≡ 0 → ⊥) → well_formed ns ≡ false
  unfolding examined
  failed z = go (well_formed ns) e
    where
      go : (b : Bool) → a ≡ cond b (record { number = 0; place = 0 }) (record { number = 5; place = 0 }) → b ≡ false
      go true f = absurd (z (rw f))
      go false f = refl

-- "done" is said of a plan that may be run
pub done_well : (ns : List ℤ) → examined ns ≡ record { number = 0; place = 0 } → Well ns
done_well ns e = well ns (passed ns (record { number = 0; place = 0 }) (rw e) refl)
