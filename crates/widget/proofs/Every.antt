-- A loop that tests every element of a list from i on, and the list laws by which tests of the places in use and of the others become
-- such loops. In each, g is what the whole test says. Assumes nothing.
use mathlib.Core.Path.{◌≡◌, refl, sym, ap, ◌∙◌}
use Prim.Native.Nat.{ℕ, zero, suc, ◌+◌, ◌≤◌, ◌<◌}
use mathlib.Core.Bool.{Bool, true, false, ◌&&◌}
use mathlib.Core.List.{List}
use native.Mathlib.Omega.{arith}
use native.Mathlib.Numerals.{add-one}
use lib.ListN.{length, get_or, drop, drop_of_length-le}
use lib.Seq.{drop-cons}
use Rattle.meaning.specs.Lists.{every, from}

module _ {A : Type 0} (p : A → Bool) (xs : List A) (i : ℕ) where
  every_at : (d : A) → i < length xs → every p (drop i xs) ≡ (p (get_or xs i d) && every p (drop (i + 1) xs))
  unfolding every
  every_at d h = rw (add-one i, drop-cons xs i d h)

  pub every_more : {g : Bool} (d : A) → every p (drop i xs) ≡ g → i < length xs → p (get_or xs i d) ≡ true → every p (drop (i + 1) xs) ≡ g
  every_more d e h t = sym (ap (λ b. b && every p (drop (i + 1) xs)) t) ∙ sym (every_at d h) ∙ e

  pub every_no : {g : Bool} (d : A) → every p (drop i xs) ≡ g → i < length xs → p (get_or xs i d) ≡ false → false ≡ g
  every_no d e h t = sym (every_at d h ∙ ap (λ b. b && every p (drop (i + 1) xs)) t) ∙ e

  pub every_done : {g : Bool} → every p (drop i xs) ≡ g → length xs ≤ i → true ≡ g
  unfolding every
  every_done e h = sym (ap (every p) (drop_of_length-le xs h)) ∙ e

  -- a loop that looks at each, and keeps whether all before i passed
  pub every_and : {g : Bool} (ok : Bool) (d : A) → ok && every p (drop i xs) ≡ g → i < length xs
      → (ok && p (get_or xs i d)) && every p (drop (i + 1) xs) ≡ g
  every_and ok d e h = go ok (p (get_or xs i d)) ∙ sym (ap (λ b. ok && b) (every_at d h)) ∙ e
    where
      go : (a b : Bool) → (a && b) && every p (drop (i + 1) xs) ≡ a && (b && every p (drop (i + 1) xs))
      go true b = refl
      go false b = refl

  pub every_all : {g ok : Bool} → ok && every p (drop i xs) ≡ g → length xs ≤ i → ok ≡ g
  unfolding every
  every_all {g} {ok} e h = go ok ∙ sym (ap (λ ys. ok && every p ys) (drop_of_length-le xs h)) ∙ e
    where
      go : (a : Bool) → a ≡ a && true
      go true = refl
      go false = refl

-- ---- the numbers from 0 to below n

pub length_from : (a n : ℕ) → length (from a n) ≡ n
unfolding from
length_from a zero = refl
length_from a (suc n) = ap suc (length_from (suc a) n)

pub from_at : (a n i d : ℕ) → i < n → get_or (from a n) i d ≡ a + i
unfolding from
from_at a zero i d h = absurd (omega arith)
from_at a (suc n) zero d h = omega arith
from_at a (suc n) (suc i) d h = from_at (suc a) n i d (omega arith) ∙ omega arith

pub upto_at : (n i d : ℕ) → i < n → get_or (from 0 n) i d ≡ i
upto_at n i d h = from_at 0 n i d h ∙ omega arith

module _ (p : ℕ → Bool) (n i : ℕ) where
  pub upto_more : {g : Bool} → every p (drop i (from 0 n)) ≡ g → i < n → p i ≡ true → every p (drop (i + 1) (from 0 n)) ≡ g
  upto_more e h t = every_more p (from 0 n) i 0 e (rw (length_from 0 n) h) (rw (upto_at n i 0 h) t)

  pub upto_no : {g : Bool} → every p (drop i (from 0 n)) ≡ g → i < n → p i ≡ false → false ≡ g
  upto_no e h t = every_no p (from 0 n) i 0 e (rw (length_from 0 n) h) (rw (upto_at n i 0 h) t)

  pub upto_done : {g : Bool} → every p (drop i (from 0 n)) ≡ g → n ≤ i → true ≡ g
  upto_done e h = every_done p (from 0 n) i e (rw (length_from 0 n) h)
