-- The kinds of record: the letter that names none; how many rows there are of each, and that they end within the value. Assumes nothing.
use Prim.Native.Nat.{ℕ, zero, suc, ◌<◌, ◌+◌, ◌*◌, ◌≤◌}
use mathlib.Core.Path.{◌≡◌, refl, ◌∙◌}
use mathlib.Core.Bool.{Bool, true, false, cond}
use mathlib.Core.List.{List, [], ◌∷◌}
use native.Mathlib.Omega.{arith}
use lib.Dec.{eqb}
use lib.IntN.{ℤ}
use lib.ListN.{length, get_or}
use borrow.Author.Tests.{eqb-true, eq-eqb, ne_eqb}
use Rattle.meaning.specs.Grammar.{Record, s_record, v_record, e_record, t_record, a_record, no_record, name, most, row_size, same, ORDER}
use Rattle.meaning.specs.Grammar.{named_in, record_by}
use Rattle.meaning.specs.Value.{laid, place, VALUE, num, size_by, how_many}
use Rattle.chart_rows.specs.declared.kinds.Area.{Area}
use Rattle.chart_rows.specs.declared.kinds.Record.{Record as Kind}
use Rattle.chart_rows.specs.declared.kinds.Record.TheVariants.{State, Variable, Events, Transition, Action}
use Rattle.chart_rows.specs.declared.kinds.TheConstants.{RECORDS}
use Rattle.chart_rows.specs.Kinds.{as_record}
use Rattle.chart_rows.specs.Area.{AreaOf}
use Rattle.chart_rows.proofs.Rows.{size_most}

pub letter_is : (i : ℕ) → i < 5 → record_by (get_or (83 ∷ 86 ∷ 69 ∷ 84 ∷ 65 ∷ []) i 0) ≡ get_or ORDER i no_record
unfolding record_by
letter_is zero h = refl
letter_is (suc zero) h = refl
letter_is (suc (suc zero)) h = refl
letter_is (suc (suc (suc zero))) h = refl
letter_is (suc (suc (suc (suc zero)))) h = refl
letter_is (suc (suc (suc (suc (suc i))))) h = absurd (omega arith)

-- a letter is the name of the kind that it names
module _ (k : ℕ) (r : Record) (h : 0 < name r) where
  same_in : (rs : List Record) → same (named_in rs k) r ≡ true → k ≡ name r
  same_in [] e = let z = eqb-true 0 (name r) e in absurd (omega arith)
  same_in (q ∷ rs) e = go (eqb k (name q)) refl e (same_in rs)
    where
      go : (t : Bool) → eqb k (name q) ≡ t → same (cond t q (named_in rs k)) r ≡ true → (same (named_in rs k) r ≡ true → k ≡ name r)
          → k ≡ name r
      go true x e ih = eqb-true k (name q) x ∙ eqb-true (name q) (name r) e
      go false x e ih = ih e

  pub same_no : (k ≡ name r → ⊥) → same (record_by k) r ≡ false
  unfolding record_by
  same_no n = ne_eqb (name (record_by k)) (name r) (λ e. n (same_in ORDER (eq-eqb (name (record_by k)) (name r) e)))

-- ---- the kind that a letter names

pub is_none : (k : ℕ) → (k ≡ 83 → ⊥) → (k ≡ 86 → ⊥) → (k ≡ 69 → ⊥) → (k ≡ 84 → ⊥) → (k ≡ 65 → ⊥) → record_by k ≡ no_record
unfolding record_by
is_none k s v e t a = rw (ne_eqb k 83 s, ne_eqb k 86 v, ne_eqb k 69 e, ne_eqb k 84 t, ne_eqb k 65 a)

-- the kinds in their order
pub kind_at : (i : ℕ) (k : Kind) → i < length ORDER → as_record (get_or RECORDS i k) ≡ get_or ORDER i no_record
kind_at zero k h = refl
kind_at (suc zero) k h = refl
kind_at (suc (suc zero)) k h = refl
kind_at (suc (suc (suc zero))) k h = refl
kind_at (suc (suc (suc (suc zero)))) k h = refl
kind_at (suc (suc (suc (suc (suc i))))) k h = absurd (omega arith)

-- how many rows of a kind there are, but of E
module _ (v : List ℤ) (a : Area) (n : ℕ) (e : n ≡ size_by a.most (num v a.count)) where
  counted_as : (r : Record) → AreaOf r a → same r e_record ≡ false → (n ≡ how_many v r) × (n ≤ most r)
  counted_as r i f =
      let z = size_most a.most (num v a.count) in
      (rw f (e ∙ rw (i.most, i.count)), rw (← i.most) (omega arith))

  pub many_counted : (k : Kind) → (k ≡ Events → ⊥) → AreaOf (as_record k) a
      → (n ≡ how_many v (as_record k)) × (n ≤ most (as_record k))
  many_counted State h i = counted_as s_record i refl
  many_counted Variable h i = counted_as v_record i refl
  many_counted Events h i = absurd (h refl)
  many_counted Transition h i = counted_as t_record i refl
  many_counted Action h i = counted_as a_record i refl

-- of no kind there are none
pub many_none : (v : List ℤ) (r : Record) → no_record ≡ r → (0 ≡ how_many v r) × (0 ≤ most r)
many_none v r e =
    let z : size_by 0 (num v VALUE) ≤ 0 = size_most 0 (num v VALUE) in
    let y : 0 ≡ size_by 0 (num v VALUE) = omega arith in
    rw (← e) (y, omega arith)

-- the rows of a kind end within the value
pub within_value : (r : Record) → place (laid r) + most r * row_size r ≤ VALUE
within_value s_record = omega arith
within_value v_record = omega arith
within_value e_record = omega arith
within_value t_record = omega arith
within_value a_record = omega arith
within_value no_record = omega arith
