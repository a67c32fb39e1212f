-- Rows that a text can state: each row of its kind is statable and has its kind's numbers, and there are not too many of them.
-- In the order: lists with one more at the end; rows of one kind; all rows. Assumes nothing.
use mathlib.Core.Path.{◌≡◌, refl}
use mathlib.Core.Bool.{Bool, true, false}
use mathlib.Core.List.{List, [], ◌∷◌, ◌++◌}
use Prim.Native.Nat.{ℕ, suc, ◌+◌, ◌≤◌}
use native.Mathlib.Omega.{arith}
use lib.IntN.{ℤ}
use lib.ListN.{length, length-append}
use Rattle.laws.proofs.Parts.{same_self}
use Rattle.meaning.specs.Grammar.{Record, e_record, most, row_size, same}
use Rattle.meaning.specs.Lists.{every_from, map_from}
use Rattle.meaning.specs.Value.{Rows, statable}
use Rattle.meaning.specs.Text.{with_row}
use Rattle.round_trip.specs.Rows.{AllLong, Fit}
use Rattle.round_trip.proofs.Fields.{both}
use Rattle.round_trip.proofs.Records.{RowKept}

-- ---- one more at the end

module _ {A : Type 0} where
  pub map_from_more : {B : Type 0} (f : ℕ → A → B) (k : ℕ) (xs : List A) (x : A)
      → map_from f k (xs ++ (x ∷ [])) ≡ map_from f k xs ++ (f (k + length xs) x ∷ [])
  unfolding map_from
  map_from_more f k [] x = let e : k + 0 ≡ k = omega arith in rw e
  map_from_more f k (y ∷ xs) x = let e : suc k + length xs ≡ k + suc (length xs) = omega arith in rw (map_from_more f (suc k) xs x, e)

  every_from_more : (p : ℕ → A → Bool) (k : ℕ) (xs : List A) (x : A) → every_from p k xs ≡ true → p (k + length xs) x ≡ true
      → every_from p k (xs ++ (x ∷ [])) ≡ true
  unfolding every_from
  every_from_more p k [] x h e = let n : k + 0 ≡ k = omega arith in rw (rw n at e)
  every_from_more p k (y ∷ xs) x h e =
      let w = both (p k y) (every_from p (suc k) xs) h in
      let n : k + suc (length xs) ≡ suc k + length xs = omega arith in
      rw w.0 (every_from_more p (suc k) xs x w.1 (rw n at e))

pub long_more : (n : ℕ) (rs : List (List ℤ)) (r : List ℤ) → AllLong n rs → length r ≡ n → AllLong n (rs ++ (r ∷ []))
unfolding AllLong
long_more n [] r a e = (e, tt)
long_more n (x ∷ rs) r a e = (a.0, long_more n rs r a.1 e)

pub nothing : {A : Type 0} (xs : List A) → length xs ≤ 0 → [] ≡ xs
nothing [] h = refl
nothing (x ∷ xs) h = absurd (omega arith)

module _ (rows : Rows) (r : Record) (x : List ℤ) where
  pub own_row : with_row r x rows r ≡ rows r ++ (x ∷ [])
  unfolding with_row
  own_row = rw (same_self r)

  pub other_row : (q : Record) → same r q ≡ false → with_row r x rows q ≡ rows q
  unfolding with_row
  other_row q s = rw s

-- ---- rows of one kind

pub record Fitting (r : Record) (xs : List (List ℤ)) : Type 0 where
  pub ok : every_from (statable r) 0 xs ≡ true
  pub long : AllLong (row_size r) xs
  pub few : length xs ≤ most r

pub fitting_none : (r : Record) → Fitting r []
unfolding AllLong every_from
fitting_none r = record { ok = refl; long = tt; few = omega arith }

pub fitting_more : (r : Record) (xs : List (List ℤ)) (x : List ℤ) (l : List ℕ) → Fitting r xs → RowKept r (length xs) l x
    → Fitting r (xs ++ (x ∷ []))
unfolding statable
fitting_more r xs x l f k =
    let n : length xs ≡ 0 + length xs = omega arith in
    record {
      ok = every_from_more (statable r) 0 xs x f.ok (rw n at k.ok);
      long = long_more (row_size r) xs x f.long k.long;
      few = rw (length-append xs (x ∷ [])) (omega (arith, k.fits));
    }

-- ---- all rows

pub record Shaped (rows : Rows) : Type 0 where
  pub fitting : (r : Record) → Fitting r (rows r)
  pub one : length (rows e_record) ≡ 1

pub shaped_fit : (rows : Rows) → ((r : Record) → Fitting r (rows r)) → Fit rows
shaped_fit rows f = record { long = λ r. (f r).long; few = λ r. (f r).few }
