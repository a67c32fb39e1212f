-- What a caller learns from the check's answer: 0 says that no rule fails, any other that the rule at its place does. Assumes nothing.
use Rattle.std.specs.Prelude.{Err}
use Prim.Native.Nat.{ℕ, suc}
use mathlib.Core.Path.{◌≡◌, refl, sym, ap, ◌∙◌}
use mathlib.Core.Bool.{Bool, true, false}
use mathlib.Core.List.{List, [], ◌∷◌}
use mathlib.Core.Option.{Option, none, some}
use native.Mathlib.Omega.{arith}
use Rattle.meaning.specs.declared.Answer.{Answer}
use Rattle.meaning.specs.declared.answers.Refusal.{Refusal}
use Rattle.meaning.specs.Answers.{number_by, place_by, answer_by}
use Rattle.meaning.specs.Rules.{first_failing, verdict}
use Rattle.meaning.proofs.Refusals.{not_done}

pub passed : (o : Option ℕ) (a : Answer) → a ≡ verdict o → a.number ≡ 0 → o ≡ none
unfolding verdict
passed none a e z = refl
passed (some r) a e z = let n : a.number ≡ 3 = rw e in absurd (omega arith)

pub failed : (o : Option ℕ) (a : Answer) → a ≡ verdict o → (a.number ≡ 0 → ⊥) → o ≡ some a.place
unfolding verdict
failed none a e z = absurd (z (rw e))
failed (some r) a e z = rw e

-- which is answer 3
pub third : (o : Option ℕ) (a : Answer) → a ≡ verdict o → (a.number ≡ 0 → ⊥) → a.number ≡ 3
unfolding verdict
third none a e z = absurd (z (rw e))
third (some r) a e z = rw e

-- the answer's number and place, once the failing rule is known
pub answer_passed : (o : Option ℕ) (a : Answer) → a ≡ verdict o → o ≡ none → a ≡ record { number = 0; place = 0 }
unfolding verdict
answer_passed o a e z = rw (e, z)

pub answer_failed : (o : Option ℕ) (r : ℕ) (a : Answer) → a ≡ verdict o → o ≡ some r → a ≡ record { number = 3; place = r }
unfolding verdict
answer_failed o r a e z = rw (e, z)

-- ---- the rules one after the other: the code found b, which is what rule n says; bs are those after it

module _ (n : ℕ) (bs : List Bool) {b p : Bool} (m : b ≡ p) where
  -- it refuses: rule n is the first that fails
  pub rule_fails : (e : Refusal) → answer_by {A = Unit {0}} (Err e) ≡ verdict (first_failing n (b ∷ []))
      → record { number = number_by e; place = place_by e } ≡ verdict (first_failing n (p ∷ bs))
  unfolding verdict first_failing
  rule_fails e r = refuses b refl
    where
      refuses : (t : Bool) → b ≡ t → record { number = number_by e; place = place_by e } ≡ verdict (first_failing n (p ∷ bs))
      refuses true h = absurd (not_done e (ap (λ (a : Answer). a.number) {y = record { number = 0; place = 0 }} (r ∙ rw h)))
      refuses false h = r ∙ rw (h, sym m ∙ h)

  -- it does not: those after it answer
  pub rule_kept : {a : Answer} → record { number = 0; place = 0 } ≡ verdict (first_failing n (b ∷ []))
      → a ≡ verdict (first_failing (suc n) bs) → a ≡ verdict (first_failing n (p ∷ bs))
  unfolding verdict first_failing
  rule_kept {a} r g = goes b refl
    where
      goes : (t : Bool) → b ≡ t → a ≡ verdict (first_failing n (p ∷ bs))
      goes true h = rw (sym m ∙ h) g
      goes false h = let z : 0 ≡ 3 = ap (λ (a : Answer). a.number) {y = record { number = 3; place = n }} (r ∙ rw h) in absurd (omega (arith, z))
