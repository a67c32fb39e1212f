-- A whole call on a lent slice (01, "Answer numbers"): it begins with nothing written, and what its steps leave behind is its outcome; the
-- slice past the last entry, or the whole of it on a refusal, is 0. Assumes nothing.
use Rattle.std.proofs.Common.{◌≡◌, sym, ap, ◌∙◌, ℕ, ◌-◌, ◌/◌, ◌≤◌, List, ◌++◌, length, take, replicate, ℤ, pos, Ok, Err, arith}
use lib.Seq.{length-take-le}
use Rattle.meaning.specs.Answers.{number_by}
use Rattle.meaning.specs.declared.answers.Refusal.{Refusal}
use Rattle.meaning.specs.declared.State.{State}
use Rattle.meaning.specs.Steps.{Step}
use Rattle.meaning.specs.Lists.{padded}
use Rattle.meaning.specs.Widget.{Ctx, begin, ENTRY}
use Rattle.meaning.specs.Calls.{Outcome, as_found, outcome, lent}
use Rattle.widget.specs.View.{ctx, went, Did}

-- at the place 0 nothing is written, and the whole slice is room
pub begins : (u : State) (t : List ℤ) → ctx u t 0 ≡ begin u (length t)
unfolding ctx begin
begins u t = let z : length t - 0 ≡ length t = omega arith in rw z

-- the outcome of steps that went to the end
abbrev pub ended : State → List ℤ → Outcome
ended u out = record { number = 0; place = 0; after = u; trace = out }

module _ (v : State) {D : Step Ctx} {u : State} {t : List ℤ} {u' : State} {t' : List ℤ} where
  pub ends_done : {n : ℕ} → Did D u t 0 (Ok n) u' t' → outcome v (D (begin u (length t))) ≡ ended u' (take n t')
  unfolding went ctx outcome
  ends_done d = ap (λ k. outcome v (D k)) (sym (begins u t)) ∙ ap (outcome v) (sym d.does)

  pub ends_refused : {r : Refusal} → Did D u t 0 (Err r) u' t' → outcome v (D (begin u (length t))) ≡ as_found (number_by r) 0 v
  unfolding went outcome
  ends_refused d = ap (λ k. outcome v (D k)) (sym (begins u t)) ∙ ap (outcome v) (sym d.does)

-- ---- the lent slice after the call, as `clear_from` leaves it

pub lent_done : (u : State) (t t' : List ℤ) (at : ℕ) → at ≤ length t' → length t' ≡ length t
    → take at t' ++ replicate (length t' - at) (pos 0) ≡ lent (length t) (ended u (take at t'))
unfolding lent padded
lent_done u t t' at h e = rw (length-take-le at t' h, e)

pub lent_refused : (u : State) (n p : ℕ) (t t' : List ℤ) → length t' ≡ length t
    → take 0 t' ++ replicate (length t' - 0) (pos 0) ≡ lent (length t) (as_found n p u)
unfolding lent padded as_found
lent_refused u n p t t' e = rw e

-- the count of entries
pub entries_done : (t' : List ℤ) (at : ℕ) → at ≤ length t' → length (take at t') / ENTRY ≡ at / ENTRY
entries_done t' at h = rw (length-take-le at t' h)
