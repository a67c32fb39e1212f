-- What a passed check gives: each rule by its name. Assumes nothing.
use Prim.Native.Nat.{ℕ, suc}
use mathlib.Core.Path.{◌≡◌, refl}
use mathlib.Core.Bool.{Bool, true, false}
use mathlib.Core.List.{List, [], ◌∷◌}
use mathlib.Core.Option.{Option, none, some}
use native.Mathlib.Omega.{arith}
use lib.IntN.{ℤ}
use Rattle.meaning.specs.Chart.{Chart}
use Rattle.meaning.specs.Value.{rule_0, chart_of}
use Rattle.meaning.specs.Rules.{rule_1, rule_2, rule_3, rule_4, rule_5, rule_6, rule_7, first_failing, failing_rule, after_rule_0}
use Rattle.meaning.specs.Rules.{failing_rule_of}

-- R1 to R7 hold
pub record Kept (c : Chart) : Type 0 where
  pub rule₁ : rule_1 c ≡ true
  pub rule₂ : rule_2 c ≡ true
  pub rule₃ : rule_3 c ≡ true
  pub rule₄ : rule_4 c ≡ true
  pub rule₅ : rule_5 c ≡ true
  pub rule₆ : rule_6 c ≡ true
  pub rule₇ : rule_7 c ≡ true

none_some : (n : ℕ) {A : Type 0} → ◌≡◌ {A = Option ℕ} (some n) none → A
none_some n e = let z : ◌≡◌ {A = ℕ} 0 1 = cc in absurd (omega arith)

-- none fails: the first holds, and none of the rest fails
first_kept : (n : ℕ) (b : Bool) (bs : List Bool) → first_failing n (b ∷ bs) ≡ none → (b ≡ true) × (first_failing (suc n) bs ≡ none)
unfolding first_failing
first_kept n true bs e = (refl, e)
first_kept n false bs e = none_some n e

pub kept : (c : Chart) → failing_rule c ≡ none → Kept c
unfolding failing_rule
kept c e =
    let k₁ = first_kept 1 (rule_1 c) (rule_2 c ∷ rule_3 c ∷ rule_4 c ∷ rule_5 c ∷ rule_6 c ∷ rule_7 c ∷ []) e in
    let k₂ = first_kept 2 (rule_2 c) (rule_3 c ∷ rule_4 c ∷ rule_5 c ∷ rule_6 c ∷ rule_7 c ∷ []) k₁.1 in
    let k₃ = first_kept 3 (rule_3 c) (rule_4 c ∷ rule_5 c ∷ rule_6 c ∷ rule_7 c ∷ []) k₂.1 in
    let k₄ = first_kept 4 (rule_4 c) (rule_5 c ∷ rule_6 c ∷ rule_7 c ∷ []) k₃.1 in
    let k₅ = first_kept 5 (rule_5 c) (rule_6 c ∷ rule_7 c ∷ []) k₄.1 in
    let k₆ = first_kept 6 (rule_6 c) (rule_7 c ∷ []) k₅.1 in
    let k₇ = first_kept 7 (rule_7 c) [] k₆.1 in
    record {
      rule₁ = k₁.0;
      rule₂ = k₂.0;
      rule₃ = k₃.0;
      rule₄ = k₄.0;
      rule₅ = k₅.0;
      rule₆ = k₆.0;
      rule₇ = k₇.0;
    }

-- for a chart handed over as a value: R0 too
module _ (v : List ℤ) where
  cases : (b : Bool) → rule_0 v ≡ b → after_rule_0 b (chart_of v) ≡ none → (rule_0 v ≡ true) × (failing_rule (chart_of v) ≡ none)
  cases true r e = (r, e)
  cases false r e = none_some 0 e

  pub value_kept : failing_rule_of v ≡ none → (rule_0 v ≡ true) × (failing_rule (chart_of v) ≡ none)
  unfolding failing_rule_of
  value_kept e = cases (rule_0 v) refl e
