-- Marks as numbers, and back. Assumes nothing.
use mathlib.Core.Path.{◌≡◌, refl}
use mathlib.Core.Bool.{Bool, true, false, false≢true}
use mathlib.Core.List.{List, [], ◌∷◌, map}
use Prim.Native.Nat.{zero, suc}
use native.Mathlib.Omega.{arith}
use borrow.Author.Tests.{leb-true}
use lib.Dec.{leb}
use lib.IntN.{ℤ, pos, negsuc}
use Rattle.numbers.specs.Range.{within}
use Rattle.meaning.specs.Lists.{every}
use Rattle.laws.proofs.Lists.{and_left, and_right}
use Rattle.promises.specs.Saved.{mark, is_mark, is_set}

pub set_mark : (b : Bool) → is_set (mark b) ≡ b
unfolding mark is_set
set_mark true = refl
set_mark false = refl

pub mark_fits : (b : Bool) → is_mark (mark b) ≡ true
unfolding mark is_mark within
mark_fits true = refl
mark_fits false = refl

pub set_marks : (bs : List Bool) → map is_set (map mark bs) ≡ bs
set_marks [] = refl
set_marks (b ∷ bs) = rw (set_mark b, set_marks bs)

pub marks_fit : (bs : List Bool) → every is_mark (map mark bs) ≡ true
unfolding every
marks_fit [] = refl
marks_fit (b ∷ bs) = rw (mark_fits b) (marks_fit bs)

pub mark_set : (x : ℤ) → is_mark x ≡ true → mark (is_set x) ≡ x
unfolding mark is_mark is_set within
mark_set (pos zero) h = refl
mark_set (pos (suc zero)) h = refl
mark_set (pos (suc (suc n))) h = let k = leb-true (suc (suc n)) 1 (and_right (leb 0 (suc (suc n))) _ h) in absurd (omega arith)
mark_set (negsuc n) h = absurd (false≢true h)

pub marks_set : (xs : List ℤ) → every is_mark xs ≡ true → map mark (map is_set xs) ≡ xs
unfolding every
marks_set [] h = refl
marks_set (x ∷ xs) h =
    rw (mark_set x (and_left (is_mark x) _ h), marks_set xs (and_right (is_mark x) _ h))
