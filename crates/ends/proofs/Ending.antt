-- How a call ends, as laws over plain variables: a refusal zeroes the lent numbers; what was done stands in front of zeros; and a call
-- whose steps were run on what is lent. Assumes nothing.
use Rattle.std.specs.Prelude.{Result, Ok, Err}
use mathlib.Core.Path.{◌≡◌, sym, ap, ◌∙◌, subst}
use Prim.Native.Nat.{ℕ, ◌-◌, ◌/◌, ◌≤◌}
use mathlib.Core.List.{List, ◌++◌}
use lib.ListN.{length, take, replicate}
use lib.Seq.{length-take-le}
use lib.IntN.{ℤ, pos}
use Rattle.meaning.specs.Answers.{number_by}
use Rattle.meaning.specs.declared.answers.Refusal.{Refusal}
use Rattle.meaning.specs.declared.State.{State}
use Rattle.meaning.specs.declared.Called.{Called}
use Rattle.meaning.specs.Lists.{padded}
use Rattle.meaning.specs.Steps.{Step}
use Rattle.meaning.specs.Widget.{Ctx, ENTRY, begin}
use Rattle.meaning.specs.Calls.{Outcome, as_found, outcome, called, lent}
use Rattle.widget.specs.View.{ctx, went, Did}
use Rattle.widget.proofs.Ending.{begins}

-- the answer and the lent numbers are those of an outcome
abbrev pub Ends : Outcome → List ℤ → Called → List ℤ → Type 0
Ends o t r t₁ = (r ≡ called o) × (t₁ ≡ lent (length t) o)

pub ends_as : {o p : Outcome} (t : List ℤ) {r : Called} {t₁ : List ℤ} → p ≡ o → Ends o t r t₁ → Ends p t r t₁
ends_as t {r} {t₁} e h = subst (λ x. Ends x t r t₁) (sym e) h

pub cleared : (n p : ℕ) (u : State) (t t₁ : List ℤ) → t₁ ≡ take 0 t ++ replicate (length t - 0) (pos 0)
    → t₁ ≡ lent (length t) (as_found n p u)
unfolding lent as_found padded
cleared n p u t t₁ e = e

module _ (u v : State) (t : List ℤ) (r : Called) (t₁ : List ℤ) where
  pub ends_no : (e : Refusal) → r ≡ called (as_found (number_by e) 0 u) → t₁ ≡ take 0 t ++ replicate (length t - 0) (pos 0)
      → Ends (outcome u (went (Err e) v t)) t r t₁
  unfolding went outcome
  ends_no e h f = (h, cleared (number_by e) 0 u t t₁ f)

  pub ends_on : (at : ℕ) → at ≤ length t
      → r ≡ record { answer = record { number = 0; place = 0 }; state = v; entries = at / ENTRY }
      → t₁ ≡ take at t ++ replicate (length t - at) (pos 0) → Ends (outcome u (went (Ok at) v t)) t r t₁
  unfolding went outcome called lent padded ctx
  ends_on at l e f = let n : length (take at t) ≡ at = length-take-le at t l in (rw n e, rw n f)

-- a call whose outcome is that of its steps, from what is lent before them
pub ends_steps : (u : State) {D : Step Ctx} {v : State} {t : List ℤ} {w : Result ℕ Refusal} {v₁ : State} {t₁ : List ℤ}
    (o : Outcome) (r : Called) (t₂ : List ℤ) → Did D v t 0 w v₁ t₁
    → o ≡ outcome u (D (begin v (length t))) → Ends (outcome u (went w v₁ t₁)) t₁ r t₂ → Ends o t r t₂
ends_steps u {D} {v} {t} {w} {v₁} {t₁} o r t₂ d e f =
    let y : outcome u (went w v₁ t₁) ≡ o = ap (outcome u) (d.does ∙ ap D (begins v t)) ∙ sym e in
    (f.0 ∙ ap called y, f.1 ∙ ap (λ n. lent n (outcome u (went w v₁ t₁))) d.kept ∙ ap (lent (length t)) y)
