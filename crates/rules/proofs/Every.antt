-- The loops that try each row of a list, and each state: what is left to try says as much as the whole. Three laws each: a row that
-- fails ends the loop, one that fits goes on, and no row left is true. Assumes nothing.
use Prim.Native.Nat.{ℕ, suc, ◌+◌, ◌-◌, ◌<◌, ◌≤◌}
use mathlib.Core.Path.{◌≡◌}
use mathlib.Core.Bool.{Bool, true, false}
use mathlib.Core.List.{List, [], ◌∷◌}
use native.Mathlib.Numerals.{add-one}
use native.Mathlib.Omega.{arith}
use lib.ListN.{length, get_or, drop, drop_of_length-le}
use lib.Seq.{drop-cons}
use Rattle.meaning.specs.Lists.{every, every_from, from}

-- ---- each element of a list

module _ {A : Type 0} (p : A → Bool) (l : List A) (d : A) (i : ℕ) {b : Bool} where
  pub every_stop : i < length l → p (get_or l i d) ≡ false → every p (drop i l) ≡ b → false ≡ b
  unfolding every
  every_stop h e g = rw (drop-cons l i d h, e) at g

  pub every_next : i < length l → p (get_or l i d) ≡ true → every p (drop i l) ≡ b → every p (drop (i + 1) l) ≡ b
  unfolding every
  every_next h e g = rw (add-one i) (rw (drop-cons l i d h, e) at g)

  pub every_done : length l ≤ i → every p (drop i l) ≡ b → true ≡ b
  unfolding every
  every_done h g = rw (drop_of_length-le l h) at g

-- ---- each element with its place

module _ {A : Type 0} (p : ℕ → A → Bool) (l : List A) (d : A) (i : ℕ) {b : Bool} where
  pub placed_stop : i < length l → p i (get_or l i d) ≡ false → every_from p i (drop i l) ≡ b → false ≡ b
  unfolding every_from
  placed_stop h e g = rw (drop-cons l i d h, e) at g

  pub placed_next : i < length l → p i (get_or l i d) ≡ true → every_from p i (drop i l) ≡ b → every_from p (i + 1) (drop (i + 1) l) ≡ b
  unfolding every_from
  placed_next h e g = rw (add-one i) (rw (drop-cons l i d h, e) at g)

  pub placed_done : length l ≤ i → every_from p i (drop i l) ≡ b → true ≡ b
  unfolding every_from
  placed_done h g = rw (drop_of_length-le l h) at g

-- ---- each number below n

from_cons : (i n : ℕ) → i < n → from i (n - i) ≡ i ∷ from (suc i) (n - suc i)
unfolding from
from_cons i n h = let z : n - i ≡ suc (n - suc i) = omega arith in rw z

from_none : (i n : ℕ) → n ≤ i → from i (n - i) ≡ []
unfolding from
from_none i n h = let z : n - i ≡ 0 = omega arith in rw z

module _ (p : ℕ → Bool) (n i : ℕ) {b : Bool} where
  pub all_stop : i < n → p i ≡ false → every p (from i (n - i)) ≡ b → false ≡ b
  unfolding every
  all_stop h e g = rw (from_cons i n h, e) at g

  pub all_next : i < n → p i ≡ true → every p (from i (n - i)) ≡ b → every p (from (i + 1) (n - (i + 1))) ≡ b
  unfolding every
  all_next h e g = rw (add-one i) (rw (from_cons i n h, e) at g)

  pub all_done : n ≤ i → every p (from i (n - i)) ≡ b → true ≡ b
  unfolding every
  all_done h g = rw (from_none i n h) at g

pub all_start : (p : ℕ → Bool) (n : ℕ) → every p (from 0 (n - 0)) ≡ every p (from 0 n)
all_start p n = let z : n - 0 ≡ n = omega arith in rw z
