-- A loop over the numbers below n that passes those which a test does not keep: what is left to keep, the counts of those kept, and a
-- second test of each. Assumes nothing.
use mathlib.Core.Path.{◌≡◌, refl, sym, ap, ◌∙◌}
use Prim.Native.Nat.{ℕ, suc, ◌+◌, ◌≤◌, ◌<◌}
use mathlib.Core.Bool.{Bool, true, false, not, cond, ◌&&◌}
use mathlib.Core.List.{List, [], ◌∷◌}
use native.Mathlib.Omega.{arith}
use native.Mathlib.Numerals.{add-one}
use lib.Dec.{eqb}
use borrow.Author.Tests.{eq-eqb, ne_eqb, eqb-true, eqb-false}
use lib.ListN.{length, drop, drop_of_length-le}
use lib.Seq.{drop-cons}
use Rattle.meaning.specs.Lists.{every, keep, from}
use Rattle.widget.proofs.Every.{length_from, upto_at}

module _ (q : ℕ → Bool) (n d : ℕ) where
  -- those still to keep, from d on
  abbrev pub kept_from : List ℕ
  kept_from = keep q (drop d (from 0 n))

  kept_at : d < n → kept_from ≡ cond (q d) (d ∷ keep q (drop (d + 1) (from 0 n))) (keep q (drop (d + 1) (from 0 n)))
  unfolding keep
  kept_at h =
      let l : d < length (from 0 n) = rw (length_from 0 n) h in
      rw (add-one d, drop-cons (from 0 n) d 0 l, upto_at n d 0 h)

  pub kept_skip : d < n → q d ≡ false → kept_from ≡ keep q (drop (d + 1) (from 0 n))
  kept_skip h e = kept_at h ∙ rw e

  pub kept_take : d < n → q d ≡ true → kept_from ≡ d ∷ keep q (drop (d + 1) (from 0 n))
  kept_take h e = kept_at h ∙ rw e

  pub kept_none : n ≤ d → kept_from ≡ []
  unfolding keep
  kept_none h = let l : length (from 0 n) ≤ d = rw (length_from 0 n) h in rw (drop_of_length-le (from 0 n) l)

-- ---- how many are kept, and how many of these by a second test

module _ (q p : ℕ → Bool) (n : ℕ) where
  pub record Counted (d all on : ℕ) : Type 0 where
    pub low : d ≤ n
    pub most : all ≤ d
    pub fewer : on ≤ all
    pub alls : all + length (keep q (drop d (from 0 n))) ≡ length (keep q (from 0 n))
    pub ons : on + length (keep p (keep q (drop d (from 0 n)))) ≡ length (keep p (keep q (from 0 n)))

  pub counted_start : Counted 0 0 0
  counted_start = record { low = omega arith; most = omega arith; fewer = omega arith; alls = omega arith; ons = omega arith }

  module _ {d all on : ℕ} (c : Counted d all on) where
    pub counted_skip : d < n → q d ≡ false → Counted (d + 1) all on
    counted_skip h e =
        let s = kept_skip q n d h e in
        let s₁ : length (keep q (drop d (from 0 n))) ≡ length (keep q (drop (d + 1) (from 0 n))) = ap length s in
        let s₂ : length (keep p (keep q (drop d (from 0 n)))) ≡ length (keep p (keep q (drop (d + 1) (from 0 n)))) =
        ap (λ l. length (keep p l)) s in
        record { low = omega arith; most = omega arith; fewer = omega arith; alls = omega arith; ons = omega arith }

    pub counted_on : d < n → q d ≡ true → p d ≡ true → Counted (d + 1) (all + 1) (on + 1)
    unfolding keep
    counted_on h e g =
        let s = kept_take q n d h e in
        let s₁ : length (keep q (drop d (from 0 n))) ≡ suc (length (keep q (drop (d + 1) (from 0 n)))) = ap length s in
        let s₂ : length (keep p (keep q (drop d (from 0 n)))) ≡ suc (length (keep p (keep q (drop (d + 1) (from 0 n))))) =
        ap (λ l. length (keep p l)) s ∙ rw g in
        record { low = omega arith; most = omega arith; fewer = omega arith; alls = omega arith; ons = omega arith }

    pub counted_off : d < n → q d ≡ true → p d ≡ false → Counted (d + 1) (all + 1) on
    unfolding keep
    counted_off h e g =
        let s = kept_take q n d h e in
        let s₁ : length (keep q (drop d (from 0 n))) ≡ suc (length (keep q (drop (d + 1) (from 0 n)))) = ap length s in
        let s₂ : length (keep p (keep q (drop d (from 0 n)))) ≡ length (keep p (keep q (drop (d + 1) (from 0 n)))) =
        ap (λ l. length (keep p l)) s ∙ rw g in
        record { low = omega arith; most = omega arith; fewer = omega arith; alls = omega arith; ons = omega arith }

    pub counted_all : n ≤ d → all ≡ length (keep q (from 0 n))
    unfolding keep
    counted_all h = let z : length (keep q (drop d (from 0 n))) ≡ 0 = ap length (kept_none q n d h) in omega arith

    pub counted_on_all : n ≤ d → on ≡ length (keep p (keep q (from 0 n)))
    unfolding keep
    counted_on_all h = let z : length (keep p (keep q (drop d (from 0 n)))) ≡ 0 =
        ap (λ l. length (keep p l)) (kept_none q n d h) in omega arith

-- ---- a second test of each that is kept; g is what the whole test says

module _ (p q : ℕ → Bool) (n d : ℕ) {g : Bool} where
  pub pass_skip : every p (keep q (drop d (from 0 n))) ≡ g → d < n → q d ≡ false → every p (keep q (drop (d + 1) (from 0 n))) ≡ g
  pass_skip e h t = ap (every p) (sym (kept_skip q n d h t)) ∙ e

  pub pass_more : every p (keep q (drop d (from 0 n))) ≡ g
      → d < n → q d ≡ true → p d ≡ true → every p (keep q (drop (d + 1) (from 0 n))) ≡ g
  unfolding every
  pass_more e h t k = ap (λ b. b && every p (keep q (drop (d + 1) (from 0 n)))) (sym k) ∙ ap (every p) (sym (kept_take q n d h t)) ∙ e

  pub pass_no : every p (keep q (drop d (from 0 n))) ≡ g → d < n → q d ≡ true → p d ≡ false → false ≡ g
  unfolding every
  pass_no e h t k = ap (λ b. b && every p (keep q (drop (d + 1) (from 0 n)))) (sym k) ∙ ap (every p) (sym (kept_take q n d h t)) ∙ e

  pub pass_done : every p (keep q (drop d (from 0 n))) ≡ g → n ≤ d → true ≡ g
  unfolding every
  pass_done e h = ap (every p) (sym (kept_none q n d h)) ∙ e

-- ---- tests of every element by the count of those kept

eqb_suc : (a b : ℕ) → eqb (suc a) (suc b) ≡ eqb a b
eqb_suc a b = go (eqb a b) refl
  where
    go : (t : Bool) → eqb a b ≡ t → eqb (suc a) (suc b) ≡ t
    go true e = eq-eqb (suc a) (suc b) (ap suc (eqb-true a b e))
    go false e = ne_eqb (suc a) (suc b) (λ z. eqb-false a b e (omega arith))

module _ {A : Type 0} (p : A → Bool) where
  kept_most : (xs : List A) → length (keep p xs) ≤ length xs
  unfolding keep
  kept_most [] = omega arith
  kept_most (x ∷ xs) = go (p x) (kept_most xs)
    where
      go : (b : Bool) → length (keep p xs) ≤ length xs → length (cond b (x ∷ keep p xs) (keep p xs)) ≤ suc (length xs)
      go true h = omega arith
      go false h = omega arith

  -- none: the count is 0
  pub none_counted : (xs : List A) → eqb (length (keep p xs)) 0 ≡ every (λ x. not (p x)) xs
  unfolding keep every
  none_counted [] = refl
  none_counted (x ∷ xs) = go (p x) (none_counted xs)
    where
      go : (b : Bool) → eqb (length (keep p xs)) 0 ≡ every (λ y. not (p y)) xs
          → eqb (length (cond b (x ∷ keep p xs) (keep p xs))) 0 ≡ (not b && every (λ y. not (p y)) xs)
      go true h = ne_eqb (suc (length (keep p xs))) 0 (λ z. omega arith)
      go false h = h

  -- all: the count is the length
  pub all_counted : (xs : List A) → eqb (length (keep p xs)) (length xs) ≡ every p xs
  unfolding keep every
  all_counted [] = refl
  all_counted (x ∷ xs) = go (p x) (all_counted xs) (kept_most xs)
    where
      go : (b : Bool) → eqb (length (keep p xs)) (length xs) ≡ every p xs → length (keep p xs) ≤ length xs
          → eqb (length (cond b (x ∷ keep p xs) (keep p xs))) (suc (length xs)) ≡ (b && every p xs)
      go true h m = eqb_suc (length (keep p xs)) (length xs) ∙ h
      go false h m = ne_eqb (length (keep p xs)) (suc (length xs)) (λ z. omega arith)
