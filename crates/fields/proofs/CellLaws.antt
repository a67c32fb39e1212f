-- Laws of one field: what each way out of the code says. Assumes nothing.
use Rattle.std.proofs.Common.{◌≡◌, refl, sym, ◌∙◌, Bool, true, false, List, [], ◌∷◌, ℕ, suc, ◌-◌, ◌≤◌, ◌<◌}
use Rattle.std.proofs.Common.{Result, arith, eqb, length, get_or, take, drop}
use Rattle.std.proofs.Math.Seq.{take-length}
use Rattle.std.specs.List.{list_any}
use lib.IntN.{ℤ, pos}
use borrow.Author.Tests.{eq-eqb, ne_eqb, eqb-true}
use mathlib.Core.Bool.{true≢false}
use Rattle.meaning.specs.Grammar.{Field, turn, number, count, letter, dash, target_state, target_history, target_none}
use Rattle.meaning.specs.Value.{ABSENT}
use Rattle.meaning.specs.Lists.{has}
use Rattle.meaning.specs.Line.{Line, wrong, letter_of, is_turn, number_line, count_line, right_if, read_field}
use Rattle.meaning.specs.Number.{number_of}
use Rattle.meaning.specs.declared.Fault.{Fault}

-- ---- a letter among others
pub has_any : (x : ℕ) (l : List ℕ) → list_any (λ y. eqb y x) l ≡ has x l
unfolding has
has_any x [] = refl
has_any x (y ∷ l) = rw (same y x, has_any x l)
  where
    same : (a b : ℕ) → eqb a b ≡ eqb b a
    same a b = go (eqb a b) refl
      where
        go : (t : Bool) → eqb a b ≡ t → t ≡ eqb b a
        go true e = sym (eq-eqb b a (sym (eqb-true a b e)))
        go false e = sym (ne_eqb b a (λ h. true≢false (sym (eq-eqb a b (sym h)) ∙ e)))

-- ---- h and a number
pub history_empty : (s : List ℕ) → length s < 1 → wrong ≡ read_field target_history 0 s
unfolding read_field number_of
history_empty [] h = refl
history_empty (b ∷ bs) h = absurd (omega arith)

pub history_not : (s : List ℕ) → (get_or s 0 0 ≡ 104 → ⊥) → wrong ≡ read_field target_history 0 s
unfolding read_field number_of
history_not [] e = refl
history_not (b ∷ bs) e = rw (ne_eqb b 104 e)

pub history_is : (s : List ℕ) → 1 ≤ length s → get_or s 0 0 ≡ 104 → (v : Result ℤ Fault) (l : Line)
    → v ≡ number_of (take (length s - 1) (drop 1 s)) → l ≡ number_line (pos 104 ∷ []) v → l ≡ read_field target_history 0 s
unfolding read_field
history_is [] h e v l n g = absurd (omega arith)
history_is (b ∷ bs) h e v l n g =
    let k : suc (length bs) - 1 ≡ length bs = omega arith in
    rw (e, g, n, k, take-length bs)

-- ---- the letter of none
pub letter_none : (x : Field) (n : ℕ) (s : List ℕ) → letter [] ≡ x → wrong ≡ read_field x n s
unfolding read_field has
letter_none x n s e = rw (← e)

-- what the function cites of these
pub ruleset of_history = (history_empty, history_is, history_not)
