-- Laws of the tests over lists: what a test of every element says of each, and what proves it. Assumes nothing.
use mathlib.Core.Path.{◌∙◌, ◌≡◌, ap, refl, sym}
use mathlib.Core.Logic.{◌⊎◌, inl, inr, ⊎_elim}
use Prim.Native.Nat.{◌+◌, ◌<◌, ◌≤◌, suc, zero, ℕ}
use native.Mathlib.Omega.{arith}
use native.Mathlib.Nat.{eq-or-lt_of_le}
use mathlib.Core.Bool.{Bool, ◌&&◌, ◌||◌, cond, false, false≢true, not, true, true≢false}
use mathlib.Core.List.{List, [], ◌++◌, ◌∷◌, map, reverse, reverse_aux}
use lib.ListN.{get_or, length, replicate}
use lib.Dec.{eqb, leb}
use borrow.Author.Tests.{eqb-false, eqb-true, leb-false, leb-true}
use Rattle.laws.specs.Facts.{Each, none_left, one_more}
use Rattle.meaning.specs.Lists.{concat_map, every, every_from, from, keep}

pub is_false : (b : Bool) → (b ≡ true → ⊥) → b ≡ false
is_false true n = absurd (n refl)
is_false false n = refl

pub not_true : (b : Bool) → not b ≡ true → b ≡ false
not_true true e = sym e
not_true false e = refl

pub and_left : (a b : Bool) → (a && b) ≡ true → a ≡ true
and_left true b e = refl
and_left false b e = absurd (false≢true e)

pub and_right : (a b : Bool) → (a && b) ≡ true → b ≡ true
and_right true b e = e
and_right false b e = absurd (false≢true e)

pub and_both : (a b : Bool) → a ≡ true → b ≡ true → (a && b) ≡ true
and_both a b p q = rw (p, q)

pub or_cases : (a b : Bool) → (a || b) ≡ true → (a ≡ true) ⊎ (b ≡ true)
or_cases true b e = inl refl
or_cases false b e = inr e

pub or_left : (a b : Bool) → a ≡ true → (a || b) ≡ true
or_left a b e = rw e refl

pub or_right : (a b : Bool) → b ≡ true → (a || b) ≡ true
or_right true b e = refl
or_right false b e = e

pub or_off_left : (a b : Bool) → (a || b) ≡ false → a ≡ false
or_off_left true b e = absurd (true≢false e)
or_off_left false b e = refl

pub or_off_right : (a b : Bool) → (a || b) ≡ false → b ≡ false
or_off_right true b e = absurd (true≢false e)
or_off_right false b e = e

pub or_off : (a b : Bool) → a ≡ false → b ≡ false → (a || b) ≡ false
or_off a b p q = rw (p, q)

-- ---- every element of a list

module _ {A : Type 0} (p : A → Bool) where
  pub every_at : (xs : List A) → every p xs ≡ true → (i : ℕ) → i < length xs → (d : A) → p (get_or xs i d) ≡ true
  unfolding every
  every_at [] e i l d = absurd (omega arith)
  every_at (x ∷ xs) e zero l d = and_left (p x) (every p xs) e
  every_at (x ∷ xs) e (suc i) l d = every_at xs (and_right (p x) (every p xs) e) i (omega arith) d

  pub at_every : (xs : List A) (d : A) → ((i : ℕ) → i < length xs → p (get_or xs i d) ≡ true) → every p xs ≡ true
  unfolding every
  at_every [] d h = refl
  at_every (x ∷ xs) d h = and_both (p x) (every p xs) (h 0 (omega arith)) (at_every xs d (λ i l. h (suc i) (omega arith)))

  pub every_append : (xs ys : List A) → every p xs ≡ true → every p ys ≡ true → every p (xs ++ ys) ≡ true
  unfolding every
  every_append [] ys h g = g
  every_append (x ∷ xs) ys h g =
      and_both (p x) (every p (xs ++ ys)) (and_left (p x) (every p xs) h) (every_append xs ys (and_right (p x) (every p xs) h) g)

  pub every_append_left : (xs ys : List A) → every p (xs ++ ys) ≡ true → every p xs ≡ true
  unfolding every
  every_append_left [] ys h = refl
  every_append_left (x ∷ xs) ys h = and_both (p x)
      (every p xs) (and_left (p x) (every p (xs ++ ys)) h) (every_append_left xs ys (and_right (p x) (every p (xs ++ ys)) h))

  pub every_append_right : (xs ys : List A) → every p (xs ++ ys) ≡ true → every p ys ≡ true
  unfolding every
  every_append_right [] ys h = h
  every_append_right (x ∷ xs) ys h = every_append_right xs ys (and_right (p x) (every p (xs ++ ys)) h)

  pub every_replicate : (n : ℕ) (x : A) → p x ≡ true → every p (replicate n x) ≡ true
  unfolding every
  every_replicate zero x e = refl
  every_replicate (suc n) x e = and_both (p x) (every p (replicate n x)) e (every_replicate n x e)

-- ---- every number of a range

module _ (p : ℕ → Bool) where
  pub every_range : (a n : ℕ) → every p (from a n) ≡ true → (x : ℕ) → a ≤ x → x < a + n → p x ≡ true
  unfolding every from
  every_range a zero e x l u = absurd (omega arith)
  every_range a (suc n) e x l u = ⊎_elim
      (λ q. rw (← q) (and_left (p a) (every p (from (suc a) n)) e))
      (λ q. every_range (suc a) n (and_right (p a) (every p (from (suc a) n)) e) x q (omega arith))
      (eq-or-lt_of_le l)

  pub range_every : (a n : ℕ) → ((x : ℕ) → a ≤ x → x < a + n → p x ≡ true) → every p (from a n) ≡ true
  unfolding every from
  range_every a zero h = refl
  range_every a (suc n) h = and_both (p a) (every p (from (suc a) n))
      (h a (omega arith) (omega arith)) (range_every (suc a) n (λ x l u. h x (omega arith) (omega arith)))

  -- of those that q keeps
  pub every_kept : (q : ℕ → Bool) (a n : ℕ) → every p (keep q (from a n)) ≡ true → (x : ℕ) → a ≤ x → x < a + n → q x ≡ true → p x ≡ true
  unfolding every keep from
  every_kept q a zero e x l u t = absurd (omega arith)
  every_kept q a (suc n) e x l u t = ⊎_elim
      (λ r. here r (q a) refl e)
      (λ r. every_kept q (suc a) n (rest (q a) e) x r (omega arith) t)
      (eq-or-lt_of_le l)
    where
      rest : (b : Bool) → every p (cond b (a ∷ keep q (from (suc a) n)) (keep q (from (suc a) n))) ≡ true
          → every p (keep q (from (suc a) n)) ≡ true
      rest true h = and_right (p a) (every p (keep q (from (suc a) n))) h
      rest false h = h

      here : a ≡ x → (b : Bool) → q a ≡ b → every p (cond b (a ∷ keep q (from (suc a) n)) (keep q (from (suc a) n))) ≡ true → p x ≡ true
      here r true s h = rw (← r) (and_left (p a) (every p (keep q (from (suc a) n))) h)
      here r false s h = absurd (true≢false (sym t ∙ rw (← r) s))

  pub kept_every : (q : ℕ → Bool) (a n : ℕ) → ((x : ℕ) → a ≤ x → x < a + n → q x ≡ true → p x ≡ true) → every p (keep q (from a n)) ≡ true
  unfolding every keep from
  kept_every q a zero h = refl
  kept_every q a (suc n) h = go (q a) refl (kept_every q (suc a) n (λ x l u. h x (omega arith) (omega arith)))
    where
      go : (b : Bool) → q a ≡ b → every p (keep q (from (suc a) n)) ≡ true
          → every p (cond b (a ∷ keep q (from (suc a) n)) (keep q (from (suc a) n))) ≡ true
      go true e ih = and_both (p a) (every p (keep q (from (suc a) n))) (h a (omega arith) (omega arith) e) ih
      go false e ih = ih

-- ---- two numbers

-- p of each element and its place
pub every_from_at : {A : Type 0} (p : ℕ → A → Bool) (k : ℕ) (xs : List A) → every_from p k xs ≡ true → (i : ℕ) → i < length xs → (d : A)
    → p (k + i) (get_or xs i d) ≡ true
unfolding every_from
every_from_at p k [] e i l d = absurd (omega arith)
every_from_at p k (x ∷ xs) e zero l d = let z : k + 0 ≡ k = omega arith in rw z (and_left (p k x) (every_from p (suc k) xs) e)
every_from_at p k (x ∷ xs) e (suc i) l d =
    let z : k + suc i ≡ suc k + i = omega arith in
    rw z (every_from_at p (suc k) xs (and_right (p k x) (every_from p (suc k) xs) e) i (omega arith) d)

pub le_or_lt : (m n : ℕ) → (m ≤ n) ⊎ (n < m)
le_or_lt m n = go (leb m n) refl
  where
    go : (b : Bool) → leb m n ≡ b → (m ≤ n) ⊎ (n < m)
    go true e = inl (leb-true m n e)
    go false e = inr (leb-false m n e)

pub same_or : (m n : ℕ) → (m ≡ n) ⊎ (m ≡ n → ⊥)
same_or m n = go (eqb m n) refl
  where
    go : (b : Bool) → eqb m n ≡ b → (m ≡ n) ⊎ (m ≡ n → ⊥)
    go true e = inl (eqb-true m n e)
    go false e = inr (eqb-false m n e)

-- ---- what holds of each element

module _ {A : Type 0} (P : A → Type 0) where
  pub each_at : (xs : List A) → Each P xs → (i : ℕ) → i < length xs → (d : A) → P (get_or xs i d)
  each_at [] none_left i l d = absurd (omega arith)
  each_at (x ∷ xs) (one_more p ps) zero l d = p
  each_at (x ∷ xs) (one_more p ps) (suc i) l d = each_at xs ps i (omega arith) d

  pub each_joined : (xs ys : List A) → Each P xs → Each P ys → Each P (xs ++ ys)
  each_joined [] ys none_left g = g
  each_joined (x ∷ xs) ys (one_more p ps) g = one_more p (each_joined xs ys ps g)

  pub each_kept : (q : A → Bool) (xs : List A) → Each P xs → Each P (keep q xs)
  unfolding keep
  each_kept q [] none_left = none_left
  each_kept q (x ∷ xs) (one_more p ps) = go (q x) (each_kept q xs ps)
    where
      go : (b : Bool) → Each P (keep q xs) → Each P (cond b (x ∷ keep q xs) (keep q xs))
      go true ih = one_more p ih
      go false ih = ih

  each_reverse_aux : (xs ys : List A) → Each P xs → Each P ys → Each P (reverse_aux xs ys)
  each_reverse_aux [] ys none_left g = g
  each_reverse_aux (x ∷ xs) ys (one_more p ps) g = each_reverse_aux xs (x ∷ ys) ps (one_more p g)

  pub each_reversed : (xs : List A) → Each P xs → Each P (reverse xs)
  each_reversed xs h = each_reverse_aux xs [] h none_left

  pub each_mapped : {B : Type 0} (f : B → A) (xs : List B) → Each P (map f xs) → Each (λ x. P (f x)) xs
  each_mapped f [] h = none_left
  each_mapped f (x ∷ xs) (one_more p ps) = one_more p (each_mapped f xs ps)

  pub each_collected : {B : Type 0} (f : B → List A) (q : B → Bool) (xs : List B)
      → ((x : B) → q x ≡ true → Each P (f x)) → Each P (concat_map f (keep q xs))
  unfolding concat_map keep
  each_collected f q [] h = none_left
  each_collected f q (x ∷ xs) h = go (q x) refl (each_collected f q xs h)
    where
      go : (b : Bool) → q x ≡ b → Each P (concat_map f (keep q xs)) → Each P (concat_map f (cond b (x ∷ keep q xs) (keep q xs)))
      go true e ih = each_joined (f x) (concat_map f (keep q xs)) (h x e) ih
      go false e ih = ih

  pub each_weaker : (Q : A → Type 0) (xs : List A) → ((x : A) → P x → Q x) → Each P xs → Each Q xs
  each_weaker Q [] f none_left = none_left
  each_weaker Q (x ∷ xs) f (one_more p ps) = one_more (f x p) (each_weaker Q xs f ps)

pub each_both : {A : Type 0} (P Q : A → Type 0) (xs : List A) → Each P xs → Each Q xs → Each (λ x. P x × Q x) xs
each_both P Q [] none_left none_left = none_left
each_both P Q (x ∷ xs) (one_more p ps) (one_more q qs) = one_more (p, q) (each_both P Q xs ps qs)

pub each_range : (a n m : ℕ) → a + n ≤ m → Each (λ x. x < m) (from a n)
unfolding from
each_range a zero m h = none_left
each_range a (suc n) m h = one_more {x = a} (omega arith) (each_range (suc a) n m (omega arith))

-- what holds of the element at each place holds of each element
pub each_of : {A : Type 0} (P : A → Type 0) (d : A) (xs : List A) → ((i : ℕ) → i < length xs → P (get_or xs i d)) → Each P xs
each_of P d [] h = none_left
each_of P d (x ∷ xs) h = one_more (h 0 (omega arith)) (each_of P d xs (λ i l. h (suc i) (omega arith)))

-- a narrower test keeps the same of what a wider one has kept
pub keep_within : {A : Type 0} (p q : A → Bool) → ((x : A) → p x ≡ true → q x ≡ true) → (xs : List A) → keep p (keep q xs) ≡ keep p xs
unfolding keep
keep_within p q h [] = refl
keep_within p q h (x ∷ xs) = go (p x) (q x) refl refl (keep_within p q h xs)
  where
    go : (a b : Bool) → p x ≡ a → q x ≡ b → keep p (keep q xs) ≡ keep p xs
        → keep p (cond b (x ∷ keep q xs) (keep q xs)) ≡ cond a (x ∷ keep p xs) (keep p xs)
    go true true d e ih = rw d (ap (λ l. x ∷ l) ih)
    go true false d e ih = absurd (true≢false (sym (h x d) ∙ e))
    go false true d e ih = rw d ih
    go false false d e ih = ih
