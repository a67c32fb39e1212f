-- Fields that no text and no row take for one another, and what tells them apart. Assumes nothing.
use mathlib.Core.Path.{◌≡◌, refl, sym, ap, ◌∙◌}
use mathlib.Core.Bool.{Bool, true, false, not, ◌&&◌, ◌||◌, true≢false, false≢true}
use mathlib.Core.List.{List, [], ◌∷◌}
use Prim.Native.Nat.{ℕ, suc, ◌+◌, ◌≤◌}
use native.Mathlib.Omega.{arith}
use lib.Dec.{eqb}
use lib.IntN.{ℤ, pos, negsuc}
use borrow.Author.Tests.{ne_eqb, eqb-true}
use Rattle.numbers.specs.Range.{in_range}
use Rattle.numbers.specs.Reference.{ref}
use Rattle.numbers.proofs.Laws.{eq_z_true}
use Rattle.meaning.specs.Lists.{has}
use Rattle.meaning.specs.Grammar.{Field, number, letter, dash, target_state, target_history, target_none}
use Rattle.meaning.specs.Value.{num, is_letter, is_absent, fits_field}
use Rattle.meaning.specs.Number.{number_of, numeral}
use Rattle.meaning.specs.Line.{is_dash, behind}
use Rattle.meaning.specs.Line.{read_field, write_field}
use Rattle.round_trip.proofs.Numbers.{no}
use Rattle.round_trip.proofs.Numbers.{lead}
use Rattle.round_trip.specs.Rows.{tells}
use Rattle.round_trip.proofs.Fields.{both, absent_is, absent_number, letter_is}

-- ---- fields that no text and no row take for one another

abbrev pub disjoint : List ℕ → List ℕ → Bool
disjoint [] ms = true
disjoint (l ∷ ls) ms = not (has l ms) && disjoint ls ms

pub data Apart : Field → Field → Type 0 where
  other_letters : {ls ms : List ℕ} → disjoint ls ms ≡ true → Apart (letter ls) (letter ms)
  dash_number : Apart dash number
  place_history : Apart target_none target_history
  place_state : Apart target_none target_state
  history_state : Apart target_history target_state

apart_letters : (k : ℕ) (ls ms : List ℕ) → disjoint ls ms ≡ true → has k ms ≡ true → has k ls ≡ false
unfolding has
apart_letters k [] ms d h = refl
apart_letters k (l ∷ ls) ms d h =
    let w = both (not (has l ms)) (disjoint ls ms) d in
    go (eqb k l) refl w.0 (apart_letters k ls ms w.1 h)
  where
    go : (t : Bool) → eqb k l ≡ t → not (has l ms) ≡ true → has k ls ≡ false → t || has k ls ≡ false
    go true e q ih = let f : has l ms ≡ true = rw (← eqb-true k l e) h in absurd (false≢true (sym (ap not f) ∙ q))
    go false e q ih = ih

-- a written number is not "-", and has no h in front
dash_two : (b : ℕ) (bs : List ℕ) → 48 ≤ b → is_dash (b ∷ bs) ≡ false
dash_two b [] h = ne_eqb b 45 (λ e. omega arith)
dash_two b (c ∷ bs) h = refl

dash_numeral : (z : ℤ) → is_dash (numeral z) ≡ false
unfolding numeral
dash_numeral (pos n) = let l = lead n in rw l.is (dash_two l.head l.tail l.least)
dash_numeral (negsuc n) = let l = lead (suc n) in rw l.is

h_numeral : (z : ℤ) → behind 104 (numeral z) ≡ []
unfolding numeral
h_numeral (pos n) = let l = lead n in let h = l.greatest in rw (l.is, ne_eqb l.head 104 (λ e. omega arith))
h_numeral (negsuc n) = refl

pub apart_text : {x y : Field} → Apart x y → (n i : ℕ) (row : List ℤ) → fits_field y i row ≡ true
    → (read_field x n (write_field y n i row)).mark ≡ 1
unfolding read_field write_field number_of
apart_text (other_letters {ls = ls} {ms = ms} d) n i row e =
    rw (apart_letters (ref (num row i)) ls ms d (letter_is ms (num row i) e).in_list)
apart_text dash_number n i row e = rw (dash_numeral (num row i))
apart_text place_history n i row e = rw (dash_two 104 (numeral (num row (i + 1))) (omega arith))
apart_text place_state n i row e = rw (dash_numeral (num row (i + 1)))
apart_text history_state n i row e = rw (h_numeral (num row (i + 1)))

pub tells_own : {x y : Field} → Apart x y → (i : ℕ) (row : List ℤ) → fits_field x i row ≡ true → tells x (num row i) ≡ true
unfolding tells
tells_own (other_letters d) i row e = e
tells_own dash_number i row e = e
tells_own place_history i row e = (both (is_absent (num row i)) (is_absent (num row (i + 1))) e).0
tells_own place_state i row e = (both (is_absent (num row i)) (is_absent (num row (i + 1))) e).0
tells_own history_state i row e = (both (is_letter 104 (num row i)) (in_range (num row (i + 1))) e).0

pub tells_not : {x y : Field} → Apart x y → (i : ℕ) (row : List ℤ) → tells x (num row i) ≡ true → fits_field y i row ≡ true → ⊥
unfolding tells
tells_not (other_letters {ls = ls} {ms = ms} d) i row e f =
    true≢false (sym (letter_is ls (num row i) e).in_list ∙ apart_letters (ref (num row i)) ls ms d (letter_is ms (num row i) f).in_list)
tells_not dash_number i row e f = true≢false (sym e ∙ absent_number (num row i) f)
tells_not place_history i row e f =
    let b = (both (is_letter 104 (num row i)) (in_range (num row (i + 1))) f).0 in
    let c : false ≡ true = rw (absent_is (num row i) e) at b in false≢true c
tells_not place_state i row e f =
    let b = (both (is_letter 0 (num row i)) (in_range (num row (i + 1))) f).0 in
    let c : false ≡ true = rw (absent_is (num row i) e) at b in false≢true c
tells_not history_state i row e f =
    let b = (both (is_letter 0 (num row i)) (in_range (num row (i + 1))) f).0 in
    let c : false ≡ true = rw (eq_z_true (num row i) (pos 104) e) at b in false≢true c

pub apart_row : {x y : Field} → Apart x y → (i : ℕ) (row : List ℤ) → fits_field x i row ≡ true → fits_field y i row ≡ true → ⊥
apart_row p i row e f = tells_not p i row (tells_own p i row e) f
