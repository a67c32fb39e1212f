-- Forms both ways, for any form that is unambiguous: a line that reads well is the written form of its row, and the row fits the form; a
-- row that fits, written, reads as itself. In the order: unambiguous forms; how a written row begins; both ways; free and short. Assumes
-- nothing.
use mathlib.Core.Path.{◌≡◌, refl, sym, ap, ◌∙◌, subst}
use mathlib.Core.Bool.{Bool, true, false, cond, ◌&&◌, ◌||◌, true≢false, false≢true}
use mathlib.Core.List.{List, [], ◌∷◌, ◌++◌}
use Prim.Native.Nat.{ℕ, zero, suc, ◌+◌, ◌-◌, max, ◌≤◌, ◌<◌}
use native.Mathlib.Omega.{arith}
use lib.Dec.{eqb, leb}
use lib.IntN.{ℤ, pos}
use lib.ListN.{length, length-append}
use borrow.Author.Tests.{eqb-true, eqb-false, leb-true}
use Rattle.sizes.specs.Sizes.{MOST}
use Rattle.meaning.specs.Grammar.{Field, width, Form, last, ◌tab◌, ◌or◌, size}
use Rattle.meaning.specs.Value.{num, fits, fits_field}
use Rattle.meaning.specs.Number.{numeral}
use Rattle.meaning.specs.Split.{TAB, tails}
use Rattle.meaning.specs.Line.{Line, worse, line, beside, or_else, read_field, read_by, write_field, write_by}
use Rattle.round_trip.proofs.Splits.{AllFree}
use Rattle.round_trip.proofs.Fields.{Good, worse_good, both, Plain, At, numbers, numbers_more, at_both, Kept, field_kept}
use Rattle.round_trip.proofs.Fields.{field_reads, field_free, Sized, longest, field_short}
use Rattle.round_trip.proofs.Apart.{Apart, apart_text, apart_row, tells_own, tells_not}
use Rattle.round_trip.specs.Rows.{tells}

-- ---- unambiguous forms

abbrev pub First : (Field → Type 0) → Form → Type 0
First P (last x) = P x
First P (x tab xs) = P x
First P (a or b) = First P a × First P b

-- of two forms to choose from, no field that one begins with can be taken for one that the other begins with
abbrev pub Clear : Form → Type 0
Clear (last x) = Plain x
Clear (x tab xs) = Plain x × Clear xs
Clear (a or b) = Clear a × (Clear b × (First (λ x. First (λ y. Apart x y) b) a × (size a ≡ size b)))

-- ---- how a row that fits begins, and its written form

record Begins (P : Field → Type 0) (a : Form) (n i : ℕ) (row : List ℤ) : Type 0 where
  field : Field
  holds : P field
  ok : fits_field field i row ≡ true
  more : List (List ℕ)
  is : write_by a n i row ≡ write_field field n i row ∷ more

begins : (P : Field → Type 0) (a : Form) (n i : ℕ) (row : List ℤ) → First P a → fits a i row ≡ true → Begins P a n i row
unfolding write_by
begins P (last x) n i row f e = record { field = x; holds = f; ok = e; more = []; is = refl }
begins P (x tab xs) n i row f e =
    record {
      field = x;
      holds = f;
      ok = (both (fits_field x i row) (fits xs (i + width x) row) e).0;
      more = write_by xs n (i + width x) row;
      is = refl;
    }
begins P (a or b) n i row f e = go (fits a i row) refl e (λ h. begins P a n i row f.0 h) (λ h. begins P b n i row f.1 h)
  where
    go : (t : Bool) → fits a i row ≡ t → t || fits b i row ≡ true → (fits a i row ≡ true → Begins P a n i row)
        → (fits b i row ≡ true → Begins P b n i row) → Begins P (a or b) n i row
    go true h e p q = let w = p h in record { field = w.field; holds = w.holds; ok = w.ok; more = w.more; is = rw h w.is }
    go false h e p q = let w = q e in record { field = w.field; holds = w.holds; ok = w.ok; more = w.more; is = rw h w.is }

-- a line whose first field is of no kind that a form begins with
wrong_front : (P : Field → Type 0) (a : Form) (n : ℕ) (f : List ℕ) (fs : List (List ℕ)) → First P a
    → ((x : Field) → P x → (read_field x n f).mark ≡ 1)
    → (read_by a n (f ∷ fs)).mark ≡ 1
unfolding read_by worse
wrong_front P (last x) n f [] p h = h x p
wrong_front P (last x) n f (g ∷ fs) p h = refl
wrong_front P (x tab xs) n f fs p h = rw (h x p)
wrong_front P (a or b) n f fs p h = rw (wrong_front P a n f fs p.0 h) (wrong_front P b n f fs p.1 h)

module _ (a b : Form) (p : First (λ x. First (λ y. Apart x y) b) a) where
  others : (x : Field) → First (λ y. Apart x y) b → (n i : ℕ) (row : List ℤ) → fits b i row ≡ true → fits_field x i row ≡ true → ⊥
  others x q n i row e h = let w = begins (λ y. Apart x y) b n i row q e in apart_row w.holds i row h w.ok

  pub not_both : (i : ℕ) (row : List ℤ) → fits a i row ≡ true → fits b i row ≡ true → ⊥
  not_both i row e f = let w = begins (λ x. First (λ y. Apart x y) b) a 0 i row p e in others w.field w.holds 0 i row f w.ok

swap_first : (P : Field → Field → Type 0) (a b : Form) → First (λ x. First (λ y. P x y) b) a → First (λ y. First (λ x. P x y) a) b
swap_first P a (last y) f = f
swap_first P a (y tab b) f = f
swap_first P a (b or c) f = (swap_first P a b (left a f), swap_first P a c (right a f))
  where
    left : (a : Form) → First (λ x. First (λ y. P x y) b × First (λ y. P x y) c) a → First (λ x. First (λ y. P x y) b) a
    left (last x) f = f.0
    left (x tab a) f = f.0
    left (a or d) f = (left a f.0, left d f.1)

    right : (a : Form) → First (λ x. First (λ y. P x y) b × First (λ y. P x y) c) a → First (λ x. First (λ y. P x y) c) a
    right (last x) f = f.1
    right (x tab a) f = f.1
    right (a or d) f = (right a f.0, right d f.1)

-- the written form of a row of the second reads wrong by the first
not_first : (a b : Form) → First (λ x. First (λ y. Apart x y) b) a → (n i : ℕ) (row : List ℤ) → fits b i row ≡ true
    → (read_by a n (write_by b n i row)).mark ≡ 1
not_first a b p n i row e =
    let w = begins (λ y. First (λ x. Apart x y) a) b n i row (swap_first Apart a b p) e in
    rw w.is (wrong_front (λ x. Apart x w.field) a n (write_field w.field n i row) w.more w.holds
    (λ x q. apart_text q n i row w.ok))

-- ---- a choice: the first number of a row tells which form it has, where the first form begins with one field

abbrev pub Starts : Form → Field → Type 0
Starts (last y) x = y ≡ x
Starts (y tab ys) x = y ≡ x
Starts (a or b) x = ⊥

starts_first : (P : Field → Type 0) (a : Form) (x : Field) → Starts a x → First P a → P x
starts_first P (last y) x s f = subst P s f
starts_first P (y tab ys) x s f = subst P s f
starts_first P (a or b) x s f = absurd s

pub starts_fits : (a : Form) (x : Field) (i : ℕ) (row : List ℤ) → Starts a x → fits a i row ≡ true → fits_field x i row ≡ true
starts_fits (last y) x i row s e = rw (← s) e
starts_fits (y tab ys) x i row s e = rw (← s) (both (fits_field y i row) (fits ys (i + width y) row) e).0
starts_fits (a or b) x i row s e = absurd s

some_first : (x : Field) (b : Form) (i : ℕ) (row : List ℤ) → First (λ y. Apart x y) b → fits_field x i row ≡ true
    → tells x (num row i) ≡ true
some_first x (last y) i row f e = tells_own f i row e
some_first x (y tab ys) i row f e = tells_own f i row e
some_first x (b or c) i row f e = some_first x b i row f.0 e

module _ (a b : Form) (x : Field) (s : Starts a x) (c : Clear (a or b)) (i : ℕ) (row : List ℤ) (e : fits (a or b) i row ≡ true) where
  apart : First (λ y. Apart x y) b
  apart = starts_first (λ x. First (λ y. Apart x y) b) a x s c.1.1.0

  pub choice_first : tells x (num row i) ≡ true → fits a i row ≡ true
  choice_first t = go (fits a i row) refl e
    where
      go : (u : Bool) → fits a i row ≡ u → u || fits b i row ≡ true → u ≡ true
      go true h e = refl
      go false h e = let w = begins (λ y. Apart x y) b 0 i row apart e in absurd (tells_not w.holds i row t w.ok)

  pub choice_second : tells x (num row i) ≡ false → (fits a i row ≡ false) × (fits b i row ≡ true)
  choice_second t = go (fits a i row) refl e
    where
      go : (u : Bool) → fits a i row ≡ u → u || fits b i row ≡ true → (u ≡ false) × (fits b i row ≡ true)
      go true h e = absurd (true≢false (sym (some_first x b i row apart (starts_fits a x i row s h)) ∙ t))
      go false h e = (refl, e)

-- ---- both ways

pub record LineKept (a : Form) (n : ℕ) (fs : List (List ℕ)) (zs : List ℤ) : Type 0 where
  pub long : length zs ≡ size a
  pub ok : (i : ℕ) (row : List ℤ) → At i zs row → fits a i row ≡ true
  pub text : (i : ℕ) (row : List ℤ) → At i zs row → write_by a n i row ≡ fs

pub form_kept : (a : Form) (n : ℕ) (fs : List (List ℕ)) → Clear a → Good (read_by a n fs).mark → LineKept a n fs (read_by a n fs).row
unfolding read_by write_by
form_kept (last x) n [] c g = absurd (g.right refl)
form_kept (last x) n (f ∷ []) c g =
    let k = field_kept x n f c g in
    record { long = k.long; ok = k.ok; text = λ i row p. ap (λ (t : List ℕ). t ∷ []) (k.text i row p) }
form_kept (last x) n (f ∷ h ∷ fs) c g = absurd (g.right refl)
form_kept (x tab xs) n [] c g = absurd (g.right refl)
form_kept (x tab xs) n (f ∷ fs) c g =
    let w = worse_good (read_field x n f).mark (read_by xs n fs).mark g in
    let k = field_kept x n f c.0 w.0 in
    let m = form_kept xs n fs c.1 w.1 in
    joined k m
  where
    joined : Kept x n f (read_field x n f).row → LineKept xs n fs (read_by xs n fs).row
        → LineKept (x tab xs) n (f ∷ fs) ((read_field x n f).row ++ (read_by xs n fs).row)
    joined k m = record {
      long = length-append (read_field x n f).row (read_by xs n fs).row ∙ rw (k.long, m.long);
      ok = λ i row p.
          let q = at_both i (read_field x n f).row (read_by xs n fs).row row p in
          let r : At (i + width x) (read_by xs n fs).row row = rw k.long at q.1 in
          rw (k.ok i row q.0, m.ok (i + width x) row r);
      text = λ i row p.
          let q = at_both i (read_field x n f).row (read_by xs n fs).row row p in
          let r : At (i + width x) (read_by xs n fs).row row = rw k.long at q.1 in
          rw (k.text i row q.0, m.text (i + width x) row r);
    }
form_kept (a or b) n fs c g =
    go (eqb (read_by a n fs).mark 1) refl g (λ h. form_kept a n fs c.0 h) (λ h. form_kept b n fs c.1.0 h)
  where
    first : (zs : List ℤ) → LineKept a n fs zs → LineKept (a or b) n fs zs
    first zs k = record { long = k.long; ok = λ i row p. rw (k.ok i row p); text = λ i row p. rw (k.ok i row p) (k.text i row p) }

    not_a : (i : ℕ) (row : List ℤ) (t : Bool) → fits a i row ≡ t → fits b i row ≡ true → t ≡ false
    not_a i row true e f = absurd (not_both a b c.1.1.0 i row e f)
    not_a i row false e f = refl

    second : (zs : List ℤ) → LineKept b n fs zs → LineKept (a or b) n fs zs
    second zs k = record {
      long = k.long ∙ sym c.1.1.1;
      ok = λ i row p. rw (not_a i row (fits a i row) refl (k.ok i row p)) (k.ok i row p);
      text = λ i row p. rw (not_a i row (fits a i row) refl (k.ok i row p)) (k.text i row p);
    }

    go : (t : Bool) → eqb (read_by a n fs).mark 1 ≡ t → Good (or_else t (read_by a n fs) (λ _. read_by b n fs)).mark
        → (Good (read_by a n fs).mark → LineKept a n fs (read_by a n fs).row)
        → (Good (read_by b n fs).mark → LineKept b n fs (read_by b n fs).row)
        → LineKept (a or b) n fs (or_else t (read_by a n fs) (λ _. read_by b n fs)).row
    go true h g p q = second (read_by b n fs).row (q g)
    go false h g p q = first (read_by a n fs).row (p g)

pub form_reads : (a : Form) (n i : ℕ) (row : List ℤ) → Clear a → n ≤ MOST → fits a i row ≡ true
    → read_by a n (write_by a n i row) ≡ line 0 (numbers i (size a) row)
unfolding read_by write_by worse
form_reads (last x) n i row c m e = field_reads x n i row c m e
form_reads (x tab xs) n i row c m e =
    let w = both (fits_field x i row) (fits xs (i + width x) row) e in
    rw (field_reads x n i row c.0 m w.0, form_reads xs n (i + width x) row c.1 m w.1, numbers_more i (width x) (size xs) row)
form_reads (a or b) n i row c m e =
    go (fits a i row) refl e (λ h. form_reads a n i row c.0 m h) (λ h. form_reads b n i row c.1.0 m h)
  where
    second : (fs : List (List ℕ)) → (read_by a n fs).mark ≡ 1 → read_by b n fs ≡ line 0 (numbers i (size b) row)
        → or_else (eqb (read_by a n fs).mark 1) (read_by a n fs) (λ _. read_by b n fs) ≡ line 0 (numbers i (size a) row)
    second fs h k =
        ap (λ (t : ℕ). or_else (eqb t 1) (read_by a n fs) (λ _. read_by b n fs)) h ∙ k
        ∙ ap (λ (t : ℕ). line 0 (numbers i t row)) (sym c.1.1.1)

    first : (fs : List (List ℕ)) → read_by a n fs ≡ line 0 (numbers i (size a) row)
        → or_else (eqb (read_by a n fs).mark 1) (read_by a n fs) (λ _. read_by b n fs) ≡ line 0 (numbers i (size a) row)
    first fs k = ap (λ (l : Line). or_else (eqb l.mark 1) l (λ _. read_by b n fs)) k

    go : (t : Bool) → fits a i row ≡ t → t || fits b i row ≡ true
        → (fits a i row ≡ true → read_by a n (write_by a n i row) ≡ line 0 (numbers i (size a) row))
        → (fits b i row ≡ true → read_by b n (write_by b n i row) ≡ line 0 (numbers i (size b) row))
        → read_by (a or b) n (cond t (write_by a n i row) (write_by b n i row)) ≡ line 0 (numbers i (size a) row)
    go true h e p q = first (write_by a n i row) (p h)
    go false h e p q = second (write_by b n i row) (not_first a b c.1.1.0 n i row e) (q e)

-- ---- free of separators, and short

pub form_free : (sep : ℕ) → sep < 45 → (a : Form) (n i : ℕ) (row : List ℤ) → Clear a → fits a i row ≡ true
    → AllFree sep (write_by a n i row)
unfolding write_by AllFree
form_free sep s (last x) n i row c e = (field_free sep s x n i row c e, tt)
form_free sep s (x tab xs) n i row c e =
    let w = both (fits_field x i row) (fits xs (i + width x) row) e in
    (field_free sep s x n i row c.0 w.0, form_free sep s xs n (i + width x) row c.1 w.1)
form_free sep s (a or b) n i row c e =
    go (fits a i row) refl e (λ h. form_free sep s a n i row c.0 h) (λ h. form_free sep s b n i row c.1.0 h)
  where
    go : (t : Bool) → fits a i row ≡ t → t || fits b i row ≡ true → (fits a i row ≡ true → AllFree sep (write_by a n i row))
        → (fits b i row ≡ true → AllFree sep (write_by b n i row))
        → AllFree sep (cond t (write_by a n i row) (write_by b n i row))
    go true h e p q = p h
    go false h e p q = q e

-- how many bytes are enough for the fields, each with a tab in front
abbrev pub most_bytes : ℕ → List ℕ → Form → ℕ → ℕ
most_bytes t ws (last x) i = suc (longest t ws x i)
most_bytes t ws (x tab xs) i = suc (longest t ws x i) + most_bytes t ws xs (i + width x)
most_bytes t ws (a or b) i = max (most_bytes t ws a i) (most_bytes t ws b i)

module _ (t : ℕ) (ws : List ℕ) (n : ℕ) (row : List ℤ) (m : length (numeral (pos n)) ≤ t) (s : Sized ws 0 row) where
  pub form_short : (a : Form) (i : ℕ) → Clear a → fits a i row ≡ true → length (tails TAB (write_by a n i row)) ≤ most_bytes t ws a i
  unfolding write_by tails
  form_short (last x) i c e =
      let l = field_short x t ws n i row c m s e in
      rw (length-append (write_field x n i row) []) (omega arith)
  form_short (x tab xs) i c e =
      let w = both (fits_field x i row) (fits xs (i + width x) row) e in
      let l = field_short x t ws n i row c.0 m s w.0 in
      let r = form_short xs (i + width x) c.1 w.1 in
      rw (length-append (write_field x n i row) (tails TAB (write_by xs n (i + width x) row))) (omega arith)
  form_short (a or b) i c e = go (fits a i row) refl e (λ q. form_short a i c.0 q) (λ q. form_short b i c.1.0 q)
    where
      go : (t₁ : Bool) → fits a i row ≡ t₁ → t₁ || fits b i row ≡ true
          → (fits a i row ≡ true → length (tails TAB (write_by a n i row)) ≤ most_bytes t ws a i)
          → (fits b i row ≡ true → length (tails TAB (write_by b n i row)) ≤ most_bytes t ws b i)
          → length (tails TAB (cond t₁ (write_by a n i row) (write_by b n i row))) ≤ max (most_bytes t ws a i) (most_bytes t ws b i)
      go true h e p q = let l = p h in omega arith
      go false h e p q = let l = q e in omega arith
