-- What the iterator's `all` says over a range, in the words of the definitions: a test of every number of the range, and of every
-- element of a list whose places the range has. Assumes nothing.
use Prim.Native.Nat.{ℕ, zero, suc, ◌+◌, ◌-◌}
use mathlib.Core.Path.{◌≡◌, refl, ap, ◌∙◌}
use mathlib.Core.Bool.{Bool, ◌&&◌}
use mathlib.Core.List.{List, [], ◌∷◌}
use native.Mathlib.Numerals.{add-one}
use native.Mathlib.Omega.{arith}
use lib.ListN.{length, get_or}
use denote.Param.Members.{Mut}
use Rattle.std.specs.declared.ops.Range.{Range}
use Rattle.std.specs.Iterator.{ChecksAll}
use Rattle.std.specs.Fn.{Called}
use Rattle.std.specs.List.{range_with_len, list_all}
use Rattle.std.proofs.iter.Yields.{nat_range_steps}
use Rattle.std.proofs.lemmas.Iterator.{YieldsList-from_range}
use Rattle.std.proofs.lemmas.Iterator.Search.{all_from_yields_List}
use Rattle.meaning.specs.Lists.{every, from}

listed : (p : ℕ → Bool) (a n : ℕ) → list_all p (range_with_len a n) ≡ every p (from a n)
unfolding every from
listed p a zero = refl
listed p a (suc n) = rw (add-one a) (ap (λ b. p a && b) (listed p (suc a) n))

shifted : (p : ℕ → Bool) (a n : ℕ) → every p (from (suc a) n) ≡ every (λ i. p (suc i)) (from a n)
unfolding every from
shifted p a zero = refl
shifted p a (suc n) = ap (λ b. p (suc a) && b) (shifted p (suc a) n)

-- every place of a list, and every element
pub every_place : {A : Type 0} (q : A → Bool) (d : A) (l : List A) → every (λ i. q (get_or l i d)) (from 0 (length l)) ≡ every q l
unfolding every from
every_place q d [] = refl
every_place q d (x ∷ xs) = ap (λ b. q x && b) (shifted (λ i. q (get_or (x ∷ xs) i d)) 0 (length xs) ∙ every_place q d xs)

module _ {F : Type 0} {g : Mut F (ℕ × Unit {0}) Bool} {f : F} {s u : Range ℕ} {r : Bool} {b : ℕ} where
  -- `(a..b).all(f)`, where f computes p
  pub all_from : (p : ℕ → Bool) (a n : ℕ) → ChecksAll nat_range_steps g s f r u → s ≡ record { start = a; end = b } → b - a ≡ n
      → ((x : ℕ) (t : Bool) (q : F) → Called g f (x, tt) t q → (q ≡ f) × (t ≡ p x)) → r ≡ every p (from a n)
  all_from p a n ran e m calls = all_from_yields_List p u f r ran (YieldsList-from_range a b n e m) calls ∙ listed p a n

  -- `(0..n).all(f)`, where f computes q of the element at its place
  pub all_places : {A : Type 0} (q : A → Bool) (l : List A) (d : A) → ChecksAll nat_range_steps g s f r u → s ≡ record { start = 0; end = b }
      → b ≡ length l → ((x : ℕ) (t : Bool) (j : F) → Called g f (x, tt) t j → (j ≡ f) × (t ≡ q (get_or l x d))) → r ≡ every q l
  all_places q l d ran e m calls = all_from (λ i. q (get_or l i d)) 0 (length l) ran e (omega arith) calls ∙ every_place q d l
