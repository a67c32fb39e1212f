-- Rows of one length, written one after another and read back: laws over the row's length and the element. Assumes nothing.
use mathlib.Core.Path.{◌∙◌, ◌≡◌, ap, refl, sym}
use Prim.Native.Nat.{◌*◌, ℕ}
use native.Mathlib.Nat.{suc-mul, zero-mul}
use native.Mathlib.Omega.{arith}
use mathlib.Core.List.{List, [], ◌++◌, ◌∷◌, append_assoc, map}
use lib.ListN.{drop, length, length-append}
use lib.Seq.{drop_at, take_at}
use Rattle.meaning.specs.Lists.{chunks, concat_map}

module _ {A B : Type 0} (f : A → List B) (k : ℕ) (h : (x : A) → length (f x) ≡ k) where
  -- so many rows, so many times the row's length
  pub rows_long : (xs : List A) → length (concat_map f xs) ≡ length xs * k
  unfolding concat_map
  rows_long [] = sym (zero-mul k)
  rows_long (x ∷ xs) = length-append (f x) (concat_map f xs) ∙ rw (h x, rows_long xs, suc-mul (length xs) k) (omega arith)

  -- what was written row by row reads back row by row, whatever follows
  pub rows_back : (xs : List A) (rest : List B) → chunks (length xs) k (concat_map f xs ++ rest) ≡ map f xs
  unfolding concat_map chunks
  rows_back [] rest = refl
  rows_back (x ∷ xs) rest =
      let more = concat_map f xs ++ rest in
      rw (append_assoc (f x) (concat_map f xs) rest, take_at (f x) more k (h x), drop_at (f x) more k (h x))
      (ap (λ l. f x ∷ l) (rows_back xs rest))

  -- and what follows comes after them
  pub rows_past : (xs : List A) (rest : List B) → drop (length xs * k) (concat_map f xs ++ rest) ≡ rest
  rows_past xs rest = drop_at (concat_map f xs) rest (length xs * k) (rows_long xs)

-- a row that states x reads as x
pub map_back : {A B : Type 0} (f : A → B) (g : B → A) → ((x : A) → g (f x) ≡ x) → (xs : List A) → map g (map f xs) ≡ xs
map_back f g h [] = refl
map_back f g h (x ∷ xs) = rw (h x, map_back f g h xs)
