-- The total of a number over the elements of a list, and how it goes with the words in which lists are written. Assumes nothing.
use mathlib.Core.Path.{◌∙◌, ◌≡◌, ap, refl, sym}
use mathlib.Core.Logic.{⊎_elim}
use Prim.Native.Nat.{◌*◌, ◌+◌, ◌<◌, ◌≤◌, suc, zero, ℕ}
use native.Mathlib.Nat.{suc-mul, zero-add, zero-mul}
use native.Mathlib.Omega.{arith}
use mathlib.Core.Bool.{Bool, cond, false, true}
use mathlib.Core.List.{List, [], ◌++◌, ◌∷◌, map, reverse, reverse_aux}
use lib.ListN.{length, length-append}
use Rattle.laws.proofs.Lists.{same_or}
use Rattle.laws.specs.Facts.{Each, none_left, one_more}
use Rattle.laws.proofs.Tree.{from_add}
use Rattle.meaning.specs.Lists.{concat_map, from, keep}

unfoldable pub total : {A : Type 0} → (A → ℕ) → List A → ℕ
total f [] = 0
total f (x ∷ xs) = f x + total f xs

pub total_joined : {A : Type 0} (f : A → ℕ) (xs ys : List A) → total f (xs ++ ys) ≡ total f xs + total f ys
unfolding total
total_joined f [] ys = omega arith
total_joined f (x ∷ xs) ys = omega (arith, total_joined f xs ys)

module _ {A : Type 0} where
  pub total_mapped : {B : Type 0} (f : B → ℕ) (g : A → B) (xs : List A) → total f (map g xs) ≡ total (λ x. f (g x)) xs
  unfolding total
  total_mapped f g [] = refl
  total_mapped f g (x ∷ xs) = ap (λ n. f (g x) + n) (total_mapped f g xs)

  pub total_collected : {B : Type 0} (f : B → ℕ) (g : A → List B) (xs : List A) → total f (concat_map g xs) ≡ total (λ x. total f (g x)) xs
  unfolding total concat_map
  total_collected f g [] = refl
  total_collected f g (x ∷ xs) = total_joined f (g x) (concat_map g xs) ∙ ap (λ n. total f (g x) + n) (total_collected f g xs)

  pub length_collected : {B : Type 0} (g : A → List B) (xs : List A) → length (concat_map g xs) ≡ total (λ x. length (g x)) xs
  unfolding total concat_map
  length_collected g [] = refl
  length_collected g (x ∷ xs) = length-append (g x) (concat_map g xs) ∙ ap (λ n. length (g x) + n) (length_collected g xs)

  pub total_sum : (f g : A → ℕ) (xs : List A) → total (λ x. f x + g x) xs ≡ total f xs + total g xs
  unfolding total
  total_sum f g [] = refl
  total_sum f g (x ∷ xs) = omega (arith, total_sum f g xs)

  pub total_same : (k : ℕ) (xs : List A) → total (λ x. k) xs ≡ length xs * k
  unfolding total
  total_same k [] = sym (zero-mul k)
  total_same k (x ∷ xs) = omega (arith, total_same k xs, suc-mul (length xs) k)

  -- what is at most so much of each element
  pub total_each : (P : A → Type 0) (f g : A → ℕ) → ((x : A) → P x → f x ≤ g x) → (xs : List A) → Each P xs → total f xs ≤ total g xs
  unfolding total
  total_each P f g h [] none_left = omega arith
  total_each P f g h (x ∷ xs) (one_more p ps) = omega (arith, h x p, total_each P f g h xs ps)

  pub total_most : (f g : A → ℕ) → ((x : A) → f x ≤ g x) → (xs : List A) → total f xs ≤ total g xs
  unfolding total
  total_most f g h [] = omega arith
  total_most f g h (x ∷ xs) = omega (arith, h x, total_most f g h xs)

  -- a part of a list
  pub total_kept : (f : A → ℕ) (p : A → Bool) (xs : List A) → total f (keep p xs) ≤ total f xs
  unfolding total keep
  total_kept f p [] = omega arith
  total_kept f p (x ∷ xs) = go (p x) (total_kept f p xs)
    where
      go : (b : Bool) → total f (keep p xs) ≤ total f xs → total f (cond b (x ∷ keep p xs) (keep p xs)) ≤ f x + total f xs
      go true ih = omega arith
      go false ih = omega arith

  -- two parts that have nothing in common
  pub total_apart : (f : A → ℕ) (p q : A → Bool) → ((x : A) → p x ≡ true → q x ≡ true → ⊥) → (xs : List A)
      → total f (keep p xs) + total f (keep q xs) ≤ total f xs
  unfolding total keep
  total_apart f p q h [] = omega arith
  total_apart f p q h (x ∷ xs) = go (p x) (q x) refl refl (total_apart f p q h xs)
    where
      go : (a b : Bool) → p x ≡ a → q x ≡ b → total f (keep p xs) + total f (keep q xs) ≤ total f xs
          → total f (cond a (x ∷ keep p xs) (keep p xs)) + total f (cond b (x ∷ keep q xs) (keep q xs)) ≤ f x + total f xs
      go true true d e ih = absurd (h x d e)
      go true false d e ih = omega arith
      go false true d e ih = omega arith
      go false false d e ih = omega arith

  total_turned : (f : A → ℕ) (xs ys : List A) → total f (reverse_aux xs ys) ≡ total f xs + total f ys
  unfolding total
  total_turned f [] ys = omega arith
  total_turned f (x ∷ xs) ys = omega (arith, total_turned f xs (x ∷ ys))

  pub total_reversed : (f : A → ℕ) (xs : List A) → total f (reverse xs) ≡ total f xs
  unfolding total
  total_reversed f xs = omega (arith, total_turned f xs [])

-- ---- over a range of numbers

pub length_from : (a n : ℕ) → length (from a n) ≡ n
unfolding from
length_from a zero = refl
length_from a (suc n) = ap suc (length_from (suc a) n)

module _ (f : ℕ → ℕ) where
  -- a range within a longer one
  pub total_part : (a n m : ℕ) → total f (from a n) ≤ total f (from 0 (a + (n + m)))
  total_part a n m = omega (arith, first_part 0 a (n + m), second)
    where
      first_part : (b i j : ℕ) → total f (from b (i + j)) ≡ total f (from b i) + total f (from (b + i) j)
      first_part b i j = ap (total f) (from_add b i j) ∙ total_joined f (from b i) (from (b + i) j)

      second : total f (from a n) ≤ total f (from (0 + a) (n + m))
      second = rw zero-add (omega (arith, first_part a n m))

  none_after : (a n m : ℕ) → m < a → ((x : ℕ) → (x ≡ m → ⊥) → f x ≡ 0) → total f (from a n) ≡ 0
  unfolding total from
  none_after a zero m l h = refl
  none_after a (suc n) m l h = omega (arith, h a (λ e. omega arith), none_after (suc a) n m (omega arith) h)

  -- what one number alone has
  total_once : (a n m k : ℕ) → f m ≤ k → ((x : ℕ) → (x ≡ m → ⊥) → f x ≡ 0) → total f (from a n) ≤ k
  unfolding total from
  total_once a zero m k l h = omega arith
  total_once a (suc n) m k l h = ⊎_elim
      (λ e. omega (arith, ap f e, none_after (suc a) n m (omega arith) h))
      (λ e. omega (arith, h a e, total_once (suc a) n m k l h))
      (same_or a m)

-- k where a test holds, which holds of one number at most
pub total_when : (p : ℕ → Bool) (m k a n : ℕ) → ((x : ℕ) → (x ≡ m → ⊥) → p x ≡ false) → total (λ x. cond (p x) k 0) (from a n) ≤ k
total_when p m k a n h = total_once (λ x. cond (p x) k 0) a n m k (at_most (p m)) (λ x e. rw (h x e))
  where
    at_most : (b : Bool) → cond b k 0 ≤ k
    at_most true = omega arith
    at_most false = omega arith
