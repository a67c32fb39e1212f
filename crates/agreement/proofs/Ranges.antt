-- When two ranges of numbers, such as spans are, have a number in common (01, "Chosen" and "The plan"). Assumes nothing.
use mathlib.Core.Path.{◌∙◌, ◌≡◌, refl, sym}
use mathlib.Core.Logic.{◌⊎◌, inl, inr, ⊎_elim}
use Prim.Native.Nat.{◌+◌, ◌<◌, ◌≤◌, suc, ℕ}
use native.Mathlib.Omega.{arith}
use mathlib.Core.Bool.{◌&&◌, false, true}
use lib.Dec.{leb}
use borrow.Author.Tests.{le-leb, lt-leb}
use Rattle.laws.proofs.Lists.{le_or_lt}
use Rattle.laws.proofs.Ranges.{exists_in, exists_none, has_in, has_out}
use Rattle.meaning.specs.Lists.{from, has}
use Rattle.meaning.specs.Reaction.{meets}

-- ---- two ranges, neither of them empty

module _ (a n b m : ℕ) where
  meet_at : (x : ℕ) → a ≤ x → x < a + suc n → b ≤ x → x < b + suc m → meets (from a (suc n)) (from b (suc m)) ≡ true
  unfolding meets
  meet_at x i j k l = exists_in (λ y. has y (from b (suc m))) x a (suc n) i j (has_in x b (suc m) k l)

  meet_never : (b + m < a) ⊎ (a + n < b) → meets (from a (suc n)) (from b (suc m)) ≡ false
  unfolding meets
  meet_never o = exists_none (λ y. has y (from b (suc m))) a (suc n)
      (λ x i j. has_out x b (suc m) (⊎_elim (λ q. inr (omega arith)) (λ q. inl (omega arith)) o))

  both : a ≤ b + m → b ≤ a + n → meets (from a (suc n)) (from b (suc m)) ≡ true
  both p q = ⊎_elim
      (λ l. meet_at b l (omega arith) (omega arith) (omega arith))
      (λ l. meet_at a (omega arith) (omega arith) (omega arith) (omega arith))
      (le_or_lt a b)

  -- they have a number in common where each begins no later than the other ends
  pub ranges_meet : meets (from a (suc n)) (from b (suc m)) ≡ (leb a (b + m) && leb b (a + n))
  ranges_meet = ⊎_elim
      (λ p. ⊎_elim
      (λ q. both p q ∙ sym (rw (le-leb a (b + m) p, le-leb b (a + n) q) refl))
      (λ q. meet_never (inr q) ∙ sym (rw (le-leb a (b + m) p, lt-leb b (a + n) q) refl))
      (le_or_lt b (a + n)))
      (λ p. meet_never (inl p) ∙ sym (rw (lt-leb a (b + m) p) refl))
      (le_or_lt a (b + m))
