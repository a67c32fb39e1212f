-- The form at an entry, by what the entry is; where the form of each record begins; the letters that a field may have. Assumes nothing.
use Prim.Native.Nat.{ℕ, zero, suc, ◌+◌, ◌≤◌, ◌<◌}
use native.Mathlib.Omega.{arith}
use mathlib.Core.Path.{◌≡◌, refl, ◌∙◌}
use mathlib.Core.Bool.{Bool, true, false, ◌&&◌, ◌||◌, false≢true}
use mathlib.Core.List.{List, [], ◌∷◌}
use lib.ListN.{length, get_or, get_or-eq_default}
use lib.Dec.{eqb, leb, ltb}
use borrow.Author.Tests.{eqb-true, ne_eqb, leb-true, ltb-true}
use Rattle.meaning.specs.Lists.{has}
use Rattle.meaning.specs.Grammar.{letter, Form, last, ◌tab◌, ◌or◌, s_record, v_record, e_record, t_record, a_record, form}
use Rattle.forms.specs.declared.Letters.{Letters}
use Rattle.forms.specs.declared.Letters.TheVariants.{O, AOrB, Sign, Owner, Saq, Ko}
use Rattle.forms.specs.declared.Field.{Field as Cell}
use Rattle.forms.specs.declared.Entry.{Entry}
use Rattle.forms.specs.declared.Entry.TheVariants.{Last, More, Or}
use Rattle.forms.specs.Table.{ENTRIES, letters_of, field_of, field_by, entries_of, no_form, no_entry, at_entry, entry_form, forms, form_at}

-- ---- the form at an entry

record Here (es : List Entry) (i : ℕ) : Type 0 where
  behind : List Form
  is : at_entry (forms es) i ≡ entry_form (get_or es i no_entry) behind
  later : (k : ℕ) → at_entry behind k ≡ at_entry (forms es) (suc i + k)

here_in : (es : List Entry) (i : ℕ) → i < length es → Here es i
unfolding forms
here_in [] i h = absurd (omega arith)
here_in (e ∷ es) zero h =
    record { behind = forms es; is = refl; later = λ m. let z : suc zero + m ≡ suc m = omega arith in rw z }
here_in (e ∷ es) (suc i) h =
    let w = here_in es i (omega arith) in
    record { behind = w.behind; is = w.is; later = λ m. let z : suc (suc i) + m ≡ suc (suc i + m) = omega arith in w.later m ∙ rw z }

module _ (i : ℕ) (h : i < ENTRIES) where
  here : Here entries_of i
  unfolding entries_of
  here = here_in entries_of i h

  pub form_or : (k : ℕ) → get_or entries_of i no_entry ≡ Or k → form_at i ≡ form_at (i + 1) or form_at (i + 1 + k)
  unfolding form_at
  form_or k e =
      let w = here in
      let a : suc i + 0 ≡ i + 1 = omega arith in
      let b : suc i + k ≡ i + 1 + k = omega arith in
      w.is ∙ rw (e, w.later 0, w.later k, a, b)

  pub form_more : (f : Cell) → get_or entries_of i no_entry ≡ More f → form_at i ≡ field_of f tab form_at (i + 1)
  unfolding form_at
  form_more f e = let w = here in let a : suc i + 0 ≡ i + 1 = omega arith in w.is ∙ rw (e, w.later 0, a)

  pub form_last : (f : Cell) → get_or entries_of i no_entry ≡ Last f → form_at i ≡ last (field_of f)
  unfolding form_at
  form_last f e = here.is ∙ rw e

pub form_past : (i : ℕ) → ENTRIES ≤ i → form_at i ≡ no_form
unfolding form_at forms entries_of
form_past i h = get_or-eq_default (forms entries_of) no_form h

-- ---- a choice

both : (a b : Bool) → a && b ≡ true → (a ≡ true) × (b ≡ true)
both true b e = (refl, e)
both false b e = absurd (false≢true e)

-- whether an entry is none, and so its form begins with one field
abbrev pub plain : Entry → Bool
plain (Last f) = true
plain (More f) = true
plain (Or k) = false

-- the rule of the table, proved at all of its entries by one test that computes: a choice stands in front of an entry that is none
abbrev choice_fits : Entry → List Entry → Bool
choice_fits (Last f) es = true
choice_fits (More f) es = true
choice_fits (Or k) [] = false
choice_fits (Or k) (e ∷ es) = plain e && leb k ENTRIES

abbrev choices_fit : List Entry → Bool
choices_fit [] = true
choices_fit (e ∷ es) = choice_fits e es && choices_fit es

abbrev Inside : List Entry → ℕ → ℕ → Type 0
Inside es i k = (suc i < length es) × (plain (get_or es (suc i) no_entry) ≡ true) × (k ≤ ENTRIES)

choice_inside : (es : List Entry) (i k : ℕ) → choices_fit es ≡ true → i < length es → get_or es i no_entry ≡ Or k → Inside es i k
choice_inside [] i k t h e = absurd (omega arith)
choice_inside (x ∷ []) zero k t h e = let w = rw e at (both (choice_fits x []) true t).0 in absurd (false≢true w)
choice_inside (x ∷ []) (suc i) k t h e = absurd (omega arith)
choice_inside (x ∷ y ∷ es) zero k t h e =
    let w = rw e at (both (choice_fits x (y ∷ es)) (choices_fit (y ∷ es)) t).0 in
    let b = both (plain y) (leb k ENTRIES) w in
    (omega arith, b.0, leb-true k ENTRIES b.1)
choice_inside (x ∷ y ∷ es) (suc i) k t h e =
    let r = choice_inside (y ∷ es) i k (both (choice_fits x (y ∷ es)) (choices_fit (y ∷ es)) t).1 (omega arith) e in
    (omega (arith, r.0), r.1, r.2)

pub or_inside : (i k : ℕ) → i < ENTRIES → get_or entries_of i no_entry ≡ Or k
    → (i + 1 < ENTRIES) × (plain (get_or entries_of (i + 1) no_entry) ≡ true) × (k ≤ ENTRIES)
unfolding entries_of
or_inside i k h e = let r = choice_inside entries_of i k refl h e in let z : i + 1 ≡ suc i = omega arith in rw z r

-- ---- a letter is a byte

abbrev all_bytes : List ℕ → Bool
all_bytes [] = true
all_bytes (l ∷ ls) = ltb l 256 && all_bytes ls

all_letters : (l : Letters) → all_bytes (letters_of l) ≡ true
all_letters O = refl
all_letters AOrB = refl
all_letters Sign = refl
all_letters Owner = refl
all_letters Saq = refl
all_letters Ko = refl

has_byte : (k : ℕ) (ls : List ℕ) → all_bytes ls ≡ true → has k ls ≡ true → k < 256
unfolding has
has_byte k [] a h = absurd (false≢true h)
has_byte k (l ∷ ls) a h = go (eqb k l) refl h (λ i. has_byte k ls (both (ltb l 256) (all_bytes ls) a).1 i)
  where
    go : (t : Bool) → eqb k l ≡ t → t || has k ls ≡ true → (has k ls ≡ true → k < 256) → k < 256
    go true e h ih = let p = ltb-true l 256 (both (ltb l 256) (all_bytes ls) a).0 in let q = eqb-true k l e in omega arith
    go false e h ih = ih h

pub letter_byte : (l : Letters) (k : ℕ) → has k (letters_of l) ≡ true → k < 256
letter_byte l k h = has_byte k (letters_of l) (all_letters l) h

-- ---- the records

pub root_form : form_at 0 ≡ form s_record 0
unfolding form_at forms entries_of
root_form = refl

pub state_form : (n : ℕ) → (n ≡ 0 → ⊥) → form_at 7 ≡ form s_record n
unfolding form_at forms entries_of
state_form zero f = absurd (f refl)
state_form (suc n) f = refl

pub variable_form : (n : ℕ) → form_at 14 ≡ form v_record n
unfolding form_at forms entries_of
variable_form n = refl

pub events_form : (n : ℕ) → form_at 18 ≡ form e_record n
unfolding form_at forms entries_of
events_form n = refl

pub transition_form : (n : ℕ) → form_at 19 ≡ form t_record n
unfolding form_at forms entries_of
transition_form n = refl

pub action_form : (n : ℕ) → form_at 39 ≡ form a_record n
unfolding form_at forms entries_of
action_form n = refl

-- ---- the code of no field
pub field_none : (x : ℕ) → (x ≡ 110 → ⊥) → (x ≡ 35 → ⊥) → (x ≡ 45 → ⊥) → (x ≡ 115 → ⊥) → (x ≡ 104 → ⊥) → (x ≡ 95 → ⊥) → (x ≡ 99 → ⊥)
    → (x ≡ 111 → ⊥) → (x ≡ 98 → ⊥) → (x ≡ 61 → ⊥) → (x ≡ 119 → ⊥) → (x ≡ 113 → ⊥) → (x ≡ 107 → ⊥) → field_by x ≡ letter []
unfolding field_by
field_none x n g d s h p c o b e w q k =
    rw (
      ne_eqb x 110 n,
      ne_eqb x 35 g,
      ne_eqb x 45 d,
      ne_eqb x 115 s,
      ne_eqb x 104 h,
      ne_eqb x 95 p,
      ne_eqb x 99 c,
      ne_eqb x 111 o,
      ne_eqb x 98 b,
      ne_eqb x 61 e,
      ne_eqb x 119 w,
      ne_eqb x 113 q,
      ne_eqb x 107 k,
    )
