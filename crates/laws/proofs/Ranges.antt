-- What is in a list: in one joined of two, and in a range of numbers, which is what a span is (01, "Chosen"). Assumes nothing.
use mathlib.Core.Path.{◌∙◌, ◌≡◌, ap, refl, sym}
use mathlib.Core.Logic.{◌⊎◌, inl, inr, ⊎_elim}
use Prim.Native.Nat.{◌+◌, ◌<◌, ◌≤◌, suc, zero, ℕ}
use native.Mathlib.Omega.{arith}
use native.Mathlib.Nat.{eq-or-lt_of_le}
use mathlib.Core.Bool.{Bool, ◌||◌, false, true}
use mathlib.Core.List.{List, [], ◌++◌, ◌∷◌}
use lib.Dec.{eqb}
use borrow.Author.Tests.{eq-eqb, ne_eqb}
use Rattle.laws.proofs.Lists.{le_or_lt, or_left, or_off, or_right}
use Rattle.meaning.specs.Lists.{exists, from, has}

pub has_joined : (x : ℕ) (ys zs : List ℕ) → has x (ys ++ zs) ≡ (has x ys || has x zs)
unfolding has
has_joined x [] zs = refl
has_joined x (y ∷ ys) zs = go (eqb x y) (has_joined x ys zs)
  where
    go : (b : Bool) → has x (ys ++ zs) ≡ (has x ys || has x zs) → (b || has x (ys ++ zs)) ≡ ((b || has x ys) || has x zs)
    go true ih = refl
    go false ih = ih

-- ---- ranges

pub has_in : (y a n : ℕ) → a ≤ y → y < a + n → has y (from a n) ≡ true
unfolding has from
has_in y a zero l u = absurd (omega arith)
has_in y a (suc n) l u = ⊎_elim
    (λ q. or_left (eqb y a) (has y (from (suc a) n)) (eq-eqb y a (sym q)))
    (λ q. or_right (eqb y a) (has y (from (suc a) n)) (has_in y (suc a) n q (omega arith)))
    (eq-or-lt_of_le l)

pub has_out : (x b m : ℕ) → (x < b) ⊎ (b + m ≤ x) → has x (from b m) ≡ false
unfolding has from
has_out x b zero o = refl
has_out x b (suc m) o = or_off (eqb x b) _
    (ne_eqb x b (λ e. ⊎_elim (λ q. omega arith) (λ q. omega arith) o))
    (has_out x (suc b) m (⊎_elim (λ q. inl (omega arith)) (λ q. inr (omega arith)) o))

pub exists_in : (p : ℕ → Bool) (x a n : ℕ) → a ≤ x → x < a + n → p x ≡ true → exists p (from a n) ≡ true
unfolding exists from
exists_in p x a zero l h e = absurd (omega arith)
exists_in p x a (suc n) l h e = ⊎_elim
    (λ q. let z : x ≡ a = omega arith in or_left (p a) _ (ap p (sym z) ∙ e))
    (λ q. or_right (p a) _ (exists_in p x (suc a) n q (omega arith) e))
    (le_or_lt x a)

pub exists_none : (p : ℕ → Bool) (a n : ℕ) → ((x : ℕ) → a ≤ x → x < a + n → p x ≡ false) → exists p (from a n) ≡ false
unfolding exists from
exists_none p a zero h = refl
exists_none p a (suc n) h =
    or_off (p a) _ (h a (omega arith) (omega arith)) (exists_none p (suc a) n (λ x l g. h x (omega arith) (omega arith)))
