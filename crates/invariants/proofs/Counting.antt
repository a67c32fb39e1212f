-- How many numbers of a range a test keeps: one at least, one at most, exactly one. Assumes nothing.
use mathlib.Core.Path.{◌≡◌, ap, refl, subst, sym}
use mathlib.Core.Logic.{⊎_elim}
use Prim.Native.Nat.{◌+◌, ◌<◌, ◌≤◌, suc, zero, ℕ}
use native.Mathlib.Omega.{arith}
use native.Mathlib.Nat.{eq-or-lt_of_le}
use mathlib.Core.Bool.{Bool, ◌&&◌, cond, false, true}
use mathlib.Core.List.{List, [], ◌∷◌}
use lib.ListN.{length}
use Rattle.laws.proofs.Lists.{is_false, le_or_lt}
use Rattle.laws.proofs.Tree.{keep_none}
use Rattle.meaning.specs.Lists.{from, keep}

pub keep_keep : {A : Type 0} (p q : A → Bool) (xs : List A) → keep p (keep q xs) ≡ keep (λ x. q x && p x) xs
unfolding keep
keep_keep p q [] = refl
keep_keep {A} p q (x ∷ xs) = go (q x) (p x) refl (keep_keep p q xs)
  where
    go : (b d : Bool) → p x ≡ d → keep p (keep q xs) ≡ keep (λ y. q y && p y) xs
        → keep p (cond b (x ∷ keep q xs) (keep q xs)) ≡ cond (b && p x) (x ∷ keep (λ y. q y && p y) xs) (keep (λ y. q y && p y) xs)
    go true true e ih = rw e (ap (λ l. x ∷ l) ih)
    go true false e ih = rw e ih
    go false d e ih = ih

-- a number that the test keeps
abbrev pub Kept : (ℕ → Bool) → ℕ → ℕ → Type 0
Kept p a n = (x : ℕ) × (a ≤ x) × (x < a + n) × (p x ≡ true)

module _ (p : ℕ → Bool) where
  pub kept_exists : (a n : ℕ) → 1 ≤ length (keep p (from a n)) → Kept p a n
  unfolding keep from
  kept_exists a zero l = absurd (omega arith)
  kept_exists a (suc n) l = go (p a) refl l (kept_exists (suc a) n)
    where
      go : (b : Bool) → p a ≡ b → 1 ≤ length (cond b (a ∷ keep p (from (suc a) n)) (keep p (from (suc a) n)))
          → (1 ≤ length (keep p (from (suc a) n)) → Kept p (suc a) n) → Kept p a (suc n)
      go true e h ih = (a, omega arith, omega arith, e)
      go false e h ih = let f = ih h in (f.0, omega (arith, f.1), omega (arith, f.2), f.3)

  longer : (b : Bool) (a : ℕ) (l : List ℕ) → length l ≤ length (cond b (a ∷ l) l)
  longer true a l = omega arith
  longer false a l = omega arith

  first_kept : (m a n : ℕ) → p a ≡ true → m ≤ suc (length (keep p (from (suc a) n)))
      → m ≤ length (cond (p a) (a ∷ keep p (from (suc a) n)) (keep p (from (suc a) n)))
  first_kept m a n e h = subst (λ b. m ≤ length (cond b (a ∷ keep p (from (suc a) n)) (keep p (from (suc a) n)))) (sym e) h

  pub kept_one : (a n x : ℕ) → a ≤ x → x < a + n → p x ≡ true → 1 ≤ length (keep p (from a n))
  unfolding keep from
  kept_one a zero x l u e = absurd (omega arith)
  kept_one a (suc n) x l u e = ⊎_elim
      (λ q. first_kept 1 a n (subst (λ y. p y ≡ true) (sym q) e) (omega arith))
      (λ q. omega (arith, kept_one (suc a) n x q (omega arith) e, longer (p a) a (keep p (from (suc a) n))))
      (eq-or-lt_of_le l)

  kept_two : (a n x y : ℕ) → a ≤ x → x < y → y < a + n → p x ≡ true → p y ≡ true → 2 ≤ length (keep p (from a n))
  unfolding keep from
  kept_two a zero x y l m u e f = absurd (omega arith)
  kept_two a (suc n) x y l m u e f = ⊎_elim
      (λ q. first_kept 2 a n (subst (λ z. p z ≡ true) (sym q) e) (omega (arith, kept_one (suc a) n y (omega arith) (omega arith) f)))
      (λ q. omega (arith, kept_two (suc a) n x y q m (omega arith) e f, longer (p a) a (keep p (from (suc a) n))))
      (eq-or-lt_of_le l)

  pub kept_only : (n x y : ℕ) → length (keep p (from 0 n)) ≡ 1 → x < n → y < n → p x ≡ true → p y ≡ true → x ≡ y
  kept_only n x y h l m e f = ⊎_elim
      (λ q. ⊎_elim (λ r. r) (λ r. absurd (omega (arith, kept_two 0 n x y (omega arith) r (omega arith) e f))) (eq-or-lt_of_le q))
      (λ q. absurd (omega (arith, kept_two 0 n y x (omega arith) q (omega arith) f e)))
      (le_or_lt x y)

  pub kept_exactly : (a n x : ℕ) → a ≤ x → x < a + n
      → p x ≡ true → ((y : ℕ) → a ≤ y → y < a + n → p y ≡ true → y ≡ x) → length (keep p (from a n)) ≡ 1
  unfolding keep from
  kept_exactly a zero x l u e h = absurd (omega arith)
  kept_exactly a (suc n) x l u e h = ⊎_elim
      (λ q. rw (q, e, keep_none p (suc x) n (λ y m v. is_false (p y) (λ t. omega (arith, h y (omega arith) (omega arith) t)))))
      (λ q. rw (is_false (p a) (λ t. omega (arith, h a (omega arith) (omega arith) t)))
      (kept_exactly (suc a) n x q (omega arith) e (λ y m v t. h y (omega arith) (omega arith) t)))
      (eq-or-lt_of_le l)
