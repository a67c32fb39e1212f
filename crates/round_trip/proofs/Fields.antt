-- Fields both ways: a field that reads well is the written form of the numbers that it states, and these fit it; numbers that fit a field,
-- written, read as themselves. In the order: marks; tests; numbers at a place of a row; what was read is what is written; what is written
-- reads the same; free of separators, and short. Assumes nothing.
use mathlib.Core.Path.{◌≡◌, refl, sym, ap, ◌∙◌}
use mathlib.Core.Bool.{Bool, true, false, cond, ◌&&◌, ◌||◌, false≢true}
use mathlib.Core.List.{List, [], ◌∷◌, ◌++◌, append_assoc}
use Prim.Native.Nat.{ℕ, zero, suc, ◌+◌, ◌≤◌, ◌<◌}
use native.Mathlib.Omega.{arith}
use lib.Dec.{eqb, leb, ltb}
use lib.IntN.{ℤ, pos, negsuc, nat_abs}
use lib.ListN.{length, get_or, length-append}
use lib.Seq.{get_or-append-add}
use borrow.Author.Tests.{eqb-true, eqb-false, ltb-true, leb-true, eq-eqb}
use Rattle.sizes.specs.Sizes.{MOST}
use Rattle.numbers.specs.Range.{in_range}
use Rattle.numbers.specs.Reference.{ref}
use Rattle.numbers.proofs.Laws.{eq_z_true, eq_z_refl, eq_z_ne}
use Rattle.meaning.specs.Lists.{has}
use Rattle.meaning.specs.Grammar.{Field, turn, number, count, letter, dash, target_state, target_history, target_none, width}
use Rattle.meaning.specs.Value.{ABSENT, num, is_letter, is_absent, one_of_letters, count_fits, fits_field}
use Rattle.meaning.specs.Number.{number_of, numeral}
use Rattle.meaning.specs.Line.{Line, worse, room, line, beyond, letter_of, is_dash, is_turn, number_line, count_line}
use Rattle.meaning.specs.Line.{right_if, read_field, write_field}
use Rattle.std.proofs.Common.{Result, Ok, Err}
use Rattle.meaning.specs.declared.Fault.{Fault}
use Rattle.meaning.specs.declared.Fault.TheVariants.{Wrong, Beyond}
use Rattle.round_trip.proofs.Numbers.{no, number_writes, number_back, number_numeral, in_range_size, size_in_range}
use Rattle.round_trip.proofs.Numbers.{numeral_length}
use Rattle.round_trip.proofs.Splits.{Free, free_byte, free_append, free_numeral}

-- ---- marks: neither 1 nor 2

pub record Good (m : ℕ) : Type 0 where
  pub right : m ≡ 1 → ⊥
  pub small : m ≡ 2 → ⊥

pub zero_good : (m : ℕ) → m ≡ 0 → Good m
zero_good m e = record { right = λ h. omega arith; small = λ h. omega arith }

pub worse_good : (a b : ℕ) → Good (worse a b) → Good a × Good b
unfolding worse
worse_good a b g = go (eqb a 1) (eqb b 1) (eqb a 2) refl refl refl g
  where
    go : (p q r : Bool) → eqb a 1 ≡ p → eqb b 1 ≡ q → eqb a 2 ≡ r → Good (cond p 1 (cond q 1 (cond r 2 b))) → Good a × Good b
    go true q r ep eq er g = absurd (g.right refl)
    go false true r ep eq er g = absurd (g.right refl)
    go false false true ep eq er g = absurd (g.small refl)
    go false false false ep eq er g = (record { right = eqb-false a 1 ep; small = eqb-false a 2 er }, g)

pub room_good : (n m : ℕ) → Good (room n m) → n < m
unfolding room
room_good n m g = go (ltb n m) refl g
  where
    go : (t : Bool) → ltb n m ≡ t → Good (cond t 0 2) → n < m
    go true e g = ltb-true n m e
    go false e g = absurd (g.small refl)

-- ---- tests

pub both : (a b : Bool) → a && b ≡ true → (a ≡ true) × (b ≡ true)
both true b e = (refl, e)
both false b e = absurd (false≢true e)

pub absent_is : (z : ℤ) → is_absent z ≡ true → z ≡ ABSENT
unfolding is_absent
absent_is z e = eq_z_true z ABSENT e

pub absent_yes : is_absent ABSENT ≡ true
unfolding is_absent
absent_yes = eq_z_refl ABSENT

pub absent_number : (z : ℤ) → in_range z ≡ true → is_absent z ≡ false
unfolding is_absent
absent_number z e = eq_z_ne z ABSENT (λ h. let k = in_range_size z e in let g : nat_abs z ≡ 2147483648 = ap nat_abs h in omega arith)

pub letters_of : (k : ℕ) (ls : List ℕ) → one_of_letters ls (pos k) ≡ has k ls
unfolding has
letters_of k [] = refl
letters_of k (l ∷ ls) = rw (letters_of k ls)

no_letter : (n : ℕ) (ls : List ℕ) → one_of_letters ls (negsuc n) ≡ false
no_letter n [] = refl
no_letter n (l ∷ ls) = no_letter n ls

-- a letter as a number of the row
pub record Letter (ls : List ℕ) (z : ℤ) : Type 0 where
  pub is : z ≡ pos (ref z)
  pub in_list : has (ref z) ls ≡ true

pub letter_is : (ls : List ℕ) (z : ℤ) → one_of_letters ls z ≡ true → Letter ls z
letter_is ls (pos k) e = record { is = refl; in_list = sym (letters_of k ls) ∙ e }
letter_is ls (negsuc n) e = absurd (false≢true (sym (no_letter n ls) ∙ e))

-- letters lie past the separators
abbrev pub above : List ℕ → Bool
above [] = true
above (l ∷ ls) = leb 45 l && above ls

pub above_has : (k : ℕ) (ls : List ℕ) → above ls ≡ true → has k ls ≡ true → 45 ≤ k
unfolding has
above_has k [] a h = absurd (false≢true h)
above_has k (l ∷ ls) a h = go (eqb k l) refl h (λ i. above_has k ls (both (leb 45 l) (above ls) a).1 i)
  where
    go : (t : Bool) → eqb k l ≡ t → t || has k ls ≡ true → (has k ls ≡ true → 45 ≤ k) → 45 ≤ k
    go true e h ih = let p = leb-true 45 l (both (leb 45 l) (above ls) a).0 in let q = eqb-true k l e in omega arith
    go false e h ih = ih h

-- a field whose letters lie past the separators
abbrev pub Plain : Field → Type 0
Plain turn = Unit
Plain number = Unit
Plain (count low high) = leb high MOST ≡ true
Plain (letter ls) = above ls ≡ true
Plain dash = Unit
Plain target_state = Unit
Plain target_history = Unit
Plain target_none = Unit

-- ---- numbers at a place of a row

abbrev pub At : ℕ → List ℤ → List ℤ → Type 0
At i [] row = Unit
At i (z ∷ zs) row = (num row i ≡ z) × At (i + 1) zs row

unfoldable pub numbers : ℕ → ℕ → List ℤ → List ℤ
numbers i zero row = []
numbers i (suc k) row = num row i ∷ numbers (i + 1) k row

pub numbers_at : (i : ℕ) (zs row : List ℤ) → At i zs row → numbers i (length zs) row ≡ zs
unfolding numbers
numbers_at i [] row a = refl
numbers_at i (z ∷ zs) row a = rw (a.0, numbers_at (i + 1) zs row a.1)

pub numbers_more : (i k m : ℕ) (row : List ℤ) → numbers i (k + m) row ≡ numbers i k row ++ numbers (i + k) m row
unfolding numbers
numbers_more i zero m row = let e : i + 0 ≡ i = omega arith in let f : 0 + m ≡ m = omega arith in rw (e, f)
numbers_more i (suc k) m row =
    let e : i + suc k ≡ i + 1 + k = omega arith in
    let f : suc k + m ≡ suc (k + m) = omega arith in
    rw (e, f) (ap (λ (l : List ℤ). num row i ∷ l) (numbers_more (i + 1) k m row))

pub at_both : (i : ℕ) (xs ys row : List ℤ) → At i (xs ++ ys) row → At i xs row × At (i + length xs) ys row
at_both i [] ys row a = let e : i + 0 ≡ i = omega arith in (tt, rw e a)
at_both i (x ∷ xs) ys row a =
    let e : i + suc (length xs) ≡ i + 1 + length xs = omega arith in
    let w = at_both (i + 1) xs ys row a.1 in
    ((a.0, w.0), rw e w.1)

at_behind : (p zs : List ℤ) → At (length p) zs (p ++ zs)
at_behind p [] = tt
at_behind p (z ∷ zs) =
    let e : length p + 0 ≡ length p = omega arith in
    let f : length (p ++ (z ∷ [])) ≡ length p + 1 = length-append p (z ∷ []) in
    (rw e at (get_or-append-add p (z ∷ zs) 0 (pos 0)), rw (f, append_assoc) at (at_behind (p ++ (z ∷ [])) zs))

pub at_self : (zs : List ℤ) → At 0 zs zs
at_self zs = at_behind [] zs

-- ---- what was read is what is written

-- the letter that a field is
pub letter_field : (f : List ℕ) (k : ℕ) → 0 < k → letter_of f ≡ k → k ∷ [] ≡ f
letter_field [] k h e = absurd (omega arith)
letter_field (b ∷ []) k h e = ap (λ (n : ℕ). n ∷ []) (sym e)
letter_field (b ∷ c ∷ f) k h e = absurd (omega arith)

dash_inv : (f : List ℕ) → is_dash f ≡ true → 45 ∷ [] ≡ f
dash_inv f e = letter_field f 45 (omega arith) (eqb-true (letter_of f) 45 e)

pub record Kept (x : Field) (n : ℕ) (f : List ℕ) (zs : List ℤ) : Type 0 where
  pub long : length zs ≡ width x
  pub ok : (i : ℕ) (row : List ℤ) → At i zs row → fits_field x i row ≡ true
  pub text : (i : ℕ) (row : List ℤ) → At i zs row → write_field x n i row ≡ f

right_kept : (P : Line → Type 0) (t : Bool) (zs : List ℤ) → (t ≡ true → P (line 0 zs)) → Good (right_if t zs).mark → P (right_if t zs)
right_kept P true zs h g = h refl
right_kept P false zs h g = absurd (g.right refl)

number_kept : (P : Line → Type 0) (zs : List ℤ) (f : List ℕ) → ((z : ℤ) → numeral z ≡ f → in_range z ≡ true → P (line 0 (zs ++ (z ∷ []))))
    → Good (number_line zs (number_of f)).mark → P (number_line zs (number_of f))
number_kept P zs f h g = go (number_of f) refl g
  where
    go : (v : Result ℤ Fault) → number_of f ≡ v → Good (number_line zs v).mark → P (number_line zs v)
    go (Ok z) e g = let w = number_writes f z e in h z w.0 (size_in_range z w.1)
    go (Err Beyond) e g = absurd (g.small refl)
    go (Err Wrong) e g = absurd (g.right refl)

turn_inv : (n : ℕ) (f : List ℕ) → is_turn (number_of f) n ≡ true → numeral (pos n) ≡ f
turn_inv n f e = (number_writes f (pos n) (go (number_of f) e)).0
  where
    go : (v : Result ℤ Fault) → is_turn v n ≡ true → v ≡ Ok (pos n)
    go (Ok (pos m)) e = ap (λ (k : ℕ). Ok (pos k)) (eqb-true m n e)
    go (Ok (negsuc m)) e = no cc
    go (Err f) e = no cc

-- a count is a number of the range
count_is : (low high : ℕ) (z : ℤ) → count_fits low high z ≡ true → leb high MOST ≡ true → nat_abs z ≤ MOST
count_is low high (pos n) e h =
    let p = leb-true n high (both (leb low n) (leb n high) e).1 in
    let q = leb-true high MOST h in
    omega arith
count_is low high (negsuc n) e h = absurd (false≢true e)

pub field_kept : (x : Field) (n : ℕ) (f : List ℕ) → Plain x → Good (read_field x n f).mark → Kept x n f (read_field x n f).row
unfolding read_field write_field number_of
field_kept turn n f p g = right_kept (λ l. Kept turn n f l.row) (is_turn (number_of f) n) []
    (λ e. record { long = refl; ok = λ i row a. refl; text = λ i row a. turn_inv n f e }) g
field_kept number n f p g = number_kept (λ l. Kept number n f l.row) [] f
    (λ z e r. record { long = refl; ok = λ i row a. rw a.0 r; text = λ i row a. rw a.0 e }) g
field_kept (count low high) n f p g = go (number_of f) refl g
  where
    within : (z : ℤ) (t : Bool) → number_of f ≡ Ok z → count_fits low high z ≡ t → Good (cond t (line 0 (z ∷ [])) beyond).mark
        → Kept (count low high) n f (cond t (line 0 (z ∷ [])) beyond).row
    within z true e c g =
        let w = number_writes f z e in
        record { long = refl; ok = λ i row a. rw a.0 c; text = λ i row a. rw a.0 w.0 }
    within z false e c g = absurd (g.small refl)

    go : (v : Result ℤ Fault) → number_of f ≡ v → Good (count_line low high v).mark → Kept (count low high) n f (count_line low high v).row
    go (Ok z) e g = within z (count_fits low high z) e refl g
    go (Err Beyond) e g = absurd (g.small refl)
    go (Err Wrong) e g = absurd (g.right refl)
field_kept (letter ls) n f p g = right_kept (λ l. Kept (letter ls) n f l.row) (has (letter_of f) ls) (pos (letter_of f) ∷ [])
    (λ e. let h = above_has (letter_of f) ls p e in
    record {
      long = refl;
      ok = λ i row a. rw a.0 (letters_of (letter_of f) ls ∙ e);
      text = λ i row a. rw a.0 (letter_field f (letter_of f) (omega arith) refl);
    }) g
field_kept dash n f p g = right_kept (λ l. Kept dash n f l.row) (is_dash f) (ABSENT ∷ [])
    (λ e. record { long = refl; ok = λ i row a. rw a.0 absent_yes; text = λ i row a. dash_inv f e }) g
field_kept target_state n f p g = number_kept (λ l. Kept target_state n f l.row) (pos 0 ∷ []) f
    (λ z e r. record { long = refl; ok = λ i row a. rw (a.0, a.1.0) r; text = λ i row a. rw a.1.0 e }) g
field_kept target_history n [] p g = absurd (g.right refl)
field_kept target_history n (b ∷ bs) p g = go (eqb b 104) refl g
  where
    go : (t : Bool) → eqb b 104 ≡ t → Good (number_line (pos 104 ∷ []) (number_of (cond t bs []))).mark
        → Kept target_history n (b ∷ bs) (number_line (pos 104 ∷ []) (number_of (cond t bs []))).row
    go true h g = number_kept (λ l. Kept target_history n (b ∷ bs) l.row) (pos 104 ∷ []) bs
        (λ z e r. record {
          long = refl;
          ok = λ i row a. rw (a.0, a.1.0) r;
          text = λ i row a. rw (a.1.0, e) (ap (λ (k : ℕ). k ∷ bs) (sym (eqb-true b 104 h)));
        }) g
    go false h g = absurd (g.right refl)
field_kept target_none n f p g = right_kept (λ l. Kept target_none n f l.row) (is_dash f) (ABSENT ∷ ABSENT ∷ [])
    (λ e. record { long = refl; ok = λ i row a. rw (a.0, a.1.0, absent_yes); text = λ i row a. dash_inv f e }) g

-- ---- what is written reads the same

pub field_reads : (x : Field) (n i : ℕ) (row : List ℤ) → Plain x → n ≤ MOST → fits_field x i row ≡ true
    → read_field x n (write_field x n i row) ≡ line 0 (numbers i (width x) row)
unfolding read_field write_field numbers
field_reads turn n i row p m e = rw (number_numeral (pos n) m, eq-eqb n n refl)
field_reads number n i row p m e = rw (number_back (num row i) e)
field_reads (count low high) n i row p m e = rw (number_numeral (num row i) (count_is low high (num row i) e p), e)
field_reads (letter ls) n i row p m e = let w = letter_is ls (num row i) e in rw (w.in_list, ← w.is)
field_reads dash n i row p m e = rw (absent_is (num row i) e)
field_reads target_state n i row p m e =
    let w = both (is_letter 0 (num row i)) (in_range (num row (i + 1))) e in
    rw (number_back (num row (i + 1)) w.1, eq_z_true (num row i) (pos 0) w.0)
field_reads target_history n i row p m e =
    let w = both (is_letter 104 (num row i)) (in_range (num row (i + 1))) e in
    rw (number_back (num row (i + 1)) w.1, eq_z_true (num row i) (pos 104) w.0)
field_reads target_none n i row p m e =
    let w = both (is_absent (num row i)) (is_absent (num row (i + 1))) e in
    rw (absent_is (num row i) w.0, absent_is (num row (i + 1)) w.1)

-- ---- free of separators, and short

pub field_free : (sep : ℕ) → sep < 45 → (x : Field) (n i : ℕ) (row : List ℤ) → Plain x → fits_field x i row ≡ true
    → Free sep (write_field x n i row)
unfolding write_field
field_free sep s turn n i row p e = free_numeral sep s (pos n)
field_free sep s number n i row p e = free_numeral sep s (num row i)
field_free sep s (count low high) n i row p e = free_numeral sep s (num row i)
field_free sep s (letter ls) n i row p e =
    free_byte sep (ref (num row i)) s (above_has (ref (num row i)) ls p (letter_is ls (num row i) e).in_list)
field_free sep s dash n i row p e = free_byte sep 45 s (omega arith)
field_free sep s target_state n i row p e = free_numeral sep s (num row (i + 1))
field_free sep s target_history n i row p e =
    free_append sep (104 ∷ []) (numeral (num row (i + 1))) (free_byte sep 104 s (omega arith)) (free_numeral sep s (num row (i + 1)))
field_free sep s target_none n i row p e = free_byte sep 45 s (omega arith)

-- the most bytes of a number of the range
abbrev pub NUMBER : ℕ
NUMBER = 11

-- a number that a text can state has at most so many bytes; those of a row from place i on have at most these
abbrev pub Bytes : ℕ → ℤ → Type 0
Bytes w z = in_range z ≡ true → length (numeral z) ≤ w

pub short_numeral : (z : ℤ) → Bytes NUMBER z
short_numeral z e = numeral_length z (in_range_size z e)

abbrev pub Sized : List ℕ → ℕ → List ℤ → Type 0
Sized [] i row = Unit
Sized (w ∷ ws) i row = Bytes w (num row i) × Sized ws (i + 1) row

sized_at : (ws : List ℕ) (i k : ℕ) (row : List ℤ) → Sized ws i row → in_range (num row (i + k)) ≡ true
    → length (numeral (num row (i + k))) ≤ get_or ws k NUMBER
sized_at [] i k row s e = short_numeral (num row (i + k)) e
sized_at (w ∷ ws) i zero row s e = let z : i + 0 ≡ i = omega arith in rw z (s.0 (rw z at e))
sized_at (w ∷ ws) i (suc k) row s e =
    let z : i + suc k ≡ i + 1 + k = omega arith in
    rw z (sized_at ws (i + 1) k row s.1 (rw z at e))

sized_here : (ws : List ℕ) (i : ℕ) (row : List ℤ) → Sized ws 0 row → in_range (num row i) ≡ true
    → length (numeral (num row i)) ≤ get_or ws i NUMBER
sized_here ws i row s e = let z : 0 + i ≡ i = omega arith in rw z at (sized_at ws 0 i row s (rw z e))

-- how many bytes a field at place i may take, where the record's own number has at most t and the row's numbers have at most ws
abbrev pub longest : ℕ → List ℕ → Field → ℕ → ℕ
longest t ws turn i = t
longest t ws number i = get_or ws i NUMBER
longest t ws (count low high) i = NUMBER
longest t ws (letter ls) i = 1
longest t ws dash i = 1
longest t ws target_state i = get_or ws (i + 1) NUMBER
longest t ws target_history i = suc (get_or ws (i + 1) NUMBER)
longest t ws target_none i = 1

pub field_short : (x : Field) (t : ℕ) (ws : List ℕ) (n i : ℕ) (row : List ℤ) → Plain x → length (numeral (pos n)) ≤ t → Sized ws 0 row
    → fits_field x i row ≡ true → length (write_field x n i row) ≤ longest t ws x i
unfolding write_field
field_short turn t ws n i row p m s e = m
field_short number t ws n i row p m s e = sized_here ws i row s e
field_short (count low high) t ws n i row p m s e = numeral_length (num row i) (count_is low high (num row i) e p)
field_short (letter ls) t ws n i row p m s e = omega arith
field_short dash t ws n i row p m s e = omega arith
field_short target_state t ws n i row p m s e =
    sized_here ws (i + 1) row s (both (is_letter 0 (num row i)) (in_range (num row (i + 1))) e).1
field_short target_history t ws n i row p m s e =
    let w = sized_here ws (i + 1) row s (both (is_letter 104 (num row i)) (in_range (num row (i + 1))) e).1 in omega arith
field_short target_none t ws n i row p m s e = omega arith
