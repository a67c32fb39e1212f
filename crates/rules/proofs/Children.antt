-- R2, R3 and R4 of one state, and the one pass that counts children: the laws that the code's tests ask for. Assumes nothing.
use Prim.Native.Nat.{ℕ, zero, suc, ◌+◌, ◌-◌, ◌<◌, ◌≤◌}
use mathlib.Core.Path.{◌≡◌, refl, sym, ap, ◌∙◌}
use mathlib.Core.Bool.{Bool, true, false, cond, ◌&&◌, false≢true, true≢false, and-true}
use mathlib.Core.List.{List, [], ◌∷◌, ◌++◌}
use native.Mathlib.Numerals.{add-one}
use native.Mathlib.Omega.{arith}
use borrow.Author.Tests.{eq-eqb, ne_eqb, eqb-true, eqb-false}
use lib.Dec.{eqb}
use lib.ListN.{length, get_or, set, replicate, length-append, length-set, length-replicate, get_or-replicate}
use lib.Seq.{get_or-set_same, get_or-set_other}
use Rattle.sizes.specs.Sizes.{STATES}
use Rattle.meaning.specs.declared.chart.Kind.{Kind}
use Rattle.meaning.specs.declared.chart.Kind.TheVariants.{O as kind_o, A as kind_a, B as kind_b}
use Rattle.meaning.specs.Lists.{has, keep, every, from}
use Rattle.meaning.specs.Chart.{Chart}
use Rattle.meaning.specs.Tree.{parent_of, kind_of, default_child, is_o, is_child, ancestors, children, all_states}
use Rattle.meaning.specs.Rules.{is_state, parent_fits, children_fit, default_fits}
use Rattle.tree.proofs.Climb.{child_root, child_below}
use Rattle.rules.specs.Family.{young, nobody, Family, count_fits_kind}
use Rattle.rules.specs.declared.states.Offspring.{Offspring}

-- ---- R2 and R4 of one state

module _ (c : Chart) where
  pub parent_root : (n : ℕ) → n ≡ 0 → true ≡ parent_fits c n
  unfolding parent_fits
  parent_root n e = rw e

  pub parent_last : (n : ℕ) → (n ≡ 0 → ⊥) → parent_of c n ≡ n - 1 → true ≡ parent_fits c n
  unfolding parent_fits has
  parent_last zero z e = absurd (z refl)
  parent_last (suc n) z e = let d : suc n - 1 ≡ n = omega arith in rw (eq-eqb (parent_of c (suc n)) n (e ∙ d))

  pub parent_above : (n : ℕ) {r : Bool} → (n ≡ 0 → ⊥) → (parent_of c n ≡ n - 1 → ⊥)
      → r ≡ has (parent_of c n) (ancestors c (n - 1)) → r ≡ parent_fits c n
  unfolding parent_fits has
  parent_above zero z e g = absurd (z refl)
  parent_above (suc n) z e g =
      let d : suc n - 1 ≡ n = omega arith in
      rw (ne_eqb (parent_of c (suc n)) n (λ q. e (q ∙ sym d))) (rw d at g)

  pub default_other : (s : ℕ) (k : Kind) → is_o k ≡ false → true ≡ default_fits c s k
  unfolding default_fits is_o
  default_other s kind_o e = absurd (true≢false e)
  default_other s kind_a e = refl
  default_other s kind_b e = refl

  pub default_o : (s : ℕ) (k : Kind) {r : Bool} → is_o k ≡ true
      → r ≡ is_state c (default_child c s) && is_child c s (default_child c s) → r ≡ default_fits c s k
  unfolding default_fits is_o
  default_o s kind_o e g = g
  default_o s kind_a e g = absurd (false≢true e)
  default_o s kind_b e g = absurd (false≢true e)

  -- ---- R3 by counts

  pub children_counted : (k : Kind) (ds : List ℕ)
      → children_fit c k ds ≡ count_fits_kind k (length ds) (every (λ d. is_o (kind_of c d)) ds)
  unfolding children_fit count_fits_kind
  children_counted kind_o ds = refl
  children_counted kind_a ds = refl
  children_counted kind_b ds = refl

-- ---- one number more

from_more : (a n : ℕ) → from a (suc n) ≡ from a n ++ ((a + n) ∷ [])
unfolding from
from_more a zero = let z : a + 0 ≡ a = omega arith in rw z
from_more a (suc n) = let z : suc a + n ≡ a + suc n = omega arith in ap (λ l. a ∷ l) (from_more (suc a) n ∙ rw z)

keep_append : (p : ℕ → Bool) (xs ys : List ℕ) → keep p (xs ++ ys) ≡ keep p xs ++ keep p ys
unfolding keep
keep_append p [] ys = refl
keep_append p (x ∷ xs) ys = go (p x) (keep_append p xs ys)
  where
    go : (t : Bool) → keep p (xs ++ ys) ≡ keep p xs ++ keep p ys
        → cond t (x ∷ keep p (xs ++ ys)) (keep p (xs ++ ys)) ≡ cond t (x ∷ keep p xs) (keep p xs) ++ keep p ys
    go true rest = ap (λ l. x ∷ l) rest
    go false rest = rest

every_append : (p : ℕ → Bool) (xs ys : List ℕ) → every p (xs ++ ys) ≡ every p xs && every p ys
unfolding every
every_append p [] ys = refl
every_append p (x ∷ xs) ys = go (p x) (every_append p xs ys)
  where
    go : (t : Bool) → every p (xs ++ ys) ≡ every p xs && every p ys → t && every p (xs ++ ys) ≡ (t && every p xs) && every p ys
    go true rest = rest
    go false rest = refl

append_nil : (xs : List ℕ) → xs ++ [] ≡ xs
append_nil [] = refl
append_nil (x ∷ xs) = ap (λ l. x ∷ l) (append_nil xs)

module _ (c : Chart) (n s : ℕ) where
  young_more : young c (suc n) s ≡ young c n s ++ keep (is_child c s) (n ∷ [])
  unfolding young
  young_more =
      let z : 0 + n ≡ n = omega arith in
      ap (keep (is_child c s)) (from_more 0 n ∙ rw z) ∙ keep_append (is_child c s) (from 0 n) (n ∷ [])

  -- state n is no child of s: all stays as it is
  young_same : is_child c s n ≡ false → young c (suc n) s ≡ young c n s
  unfolding keep
  young_same e = young_more ∙ rw e (append_nil (young c n s))

  young_child : is_child c s n ≡ true → young c (suc n) s ≡ young c n s ++ (n ∷ [])
  unfolding keep
  young_child e = young_more ∙ rw e

-- ---- the pass: before it, a state that is nobody's child, and one that is counted at its parent

pub family_none : (c : Chart) → Family c 0 (replicate STATES record { count = 0; plain = true })
unfolding young from keep every
family_none c = record {
  long = length-replicate {A = Offspring} STATES record { count = 0; plain = true };
  counted = λ s h. ap (λ o. o.count) (get_or-replicate {A = Offspring} STATES s record { count = 0; plain = true } nobody h);
  told = λ s h. ap (λ o. o.plain) (get_or-replicate {A = Offspring} STATES s record { count = 0; plain = true } nobody h);
}

module _ (c : Chart) (n : ℕ) (fs : List Offspring) (before : Family c n fs) where
  -- what a state without a child more had counted
  same : (s : ℕ) → is_child c s n ≡ false → young c n s ≡ young c (n + 1) s
  same s e = sym (young_same c n s e) ∙ ap (λ m. young c m s) (sym (add-one n))

  same_count : (s : ℕ) → s < STATES → is_child c s n ≡ false → (get_or fs s nobody).count ≡ length (young c (n + 1) s)
  same_count s h e = before.counted s h ∙ ap length (same s e)

  same_told : (s : ℕ) → s < STATES → is_child c s n ≡ false
      → (get_or fs s nobody).plain ≡ every (λ d. is_o (kind_of c d)) (young c (n + 1) s)
  same_told s h e = before.told s h ∙ ap (every (λ d. is_o (kind_of c d))) (same s e)

  -- s has the child n
  more_count : (s : ℕ) → s < STATES → is_child c s n ≡ true → (get_or fs s nobody).count + 1 ≡ length (young c (n + 1) s)
  more_count s h e =
      let l : length (young c (n + 1) s) ≡ length (young c n s) + 1 =
      ap (λ m. length (young c m s)) (add-one n) ∙ ap length (young_child c n s e) ∙ length-append (young c n s) (n ∷ []) in
      let k : (get_or fs s nobody).count ≡ length (young c n s) = before.counted s h in
      omega arith

  more_told : (s : ℕ) → s < STATES → is_child c s n ≡ true
      → (get_or fs s nobody).plain && is_o (kind_of c n) ≡ every (λ d. is_o (kind_of c d)) (young c (n + 1) s)
  unfolding every
  more_told s h e =
      rw (before.told s h, add-one n, young_child c n s e, every_append (λ d. is_o (kind_of c d)) (young c n s) (n ∷ []))
      (ap (λ t. every (λ d. is_o (kind_of c d)) (young c n s) && t) (sym (and-true (is_o (kind_of c n)))))

  family_skip : ((s : ℕ) → s < STATES → is_child c s n ≡ false) → Family c (n + 1) fs
  family_skip e = record {
    long = before.long;
    counted = λ s h. same_count s h (e s h);
    told = λ s h. same_told s h (e s h);
  }

  pub family_root : n ≡ 0 → Family c (n + 1) fs
  family_root e = family_skip (λ s h. child_root c s n e)

  pub family_far : (n ≡ 0 → ⊥) → STATES ≤ parent_of c n → Family c (n + 1) fs
  family_far z far = family_skip (λ s h. child_below c s n z ∙ ne_eqb (parent_of c n) s (λ e. omega arith))

  -- a child is counted at its parent p
  module _ (p : ℕ) (r : Bool) (z : n ≡ 0 → ⊥) (e : p ≡ parent_of c n) (h : p < STATES) (g : r ≡ is_o (kind_of c n)) where
    mine : is_child c p n ≡ true
    mine = child_below c p n z ∙ eq-eqb (parent_of c n) p (sym e)

    other : (s : ℕ) → (s ≡ p → ⊥) → is_child c s n ≡ false
    other s d = child_below c s n z ∙ ne_eqb (parent_of c n) s (λ q. d (sym (e ∙ q)))

    abbrev pub grown : Offspring
    grown = record { count = (get_or fs p nobody).count + 1; plain = (get_or fs p nobody).plain && r }

    count_at : (s : ℕ) → s < STATES → (t : Bool) → eqb s p ≡ t → (get_or (set fs p grown) s nobody).count ≡ length (young c (n + 1) s)
    count_at s k true t =
        rw (eqb-true s p t) (ap (λ o. o.count) (get_or-set_same fs p grown nobody (rw before.long h)) ∙ more_count p h mine)
    count_at s k false t =
        ap (λ o. o.count) (get_or-set_other fs p s grown nobody (eqb-false s p t)) ∙ same_count s k (other s (eqb-false s p t))

    told_at : (s : ℕ) → s < STATES → (t : Bool) → eqb s p ≡ t
        → (get_or (set fs p grown) s nobody).plain ≡ every (λ d. is_o (kind_of c d)) (young c (n + 1) s)
    told_at s k true t =
        rw (eqb-true s p t) (ap (λ o. o.plain) (get_or-set_same fs p grown nobody (rw before.long h))
        ∙ ap (λ b. (get_or fs p nobody).plain && b) g ∙ more_told p h mine)
    told_at s k false t =
        ap (λ o. o.plain) (get_or-set_other fs p s grown nobody (eqb-false s p t)) ∙ same_told s k (other s (eqb-false s p t))

    pub family_more : Family c (n + 1) (set fs p grown)
    family_more = record {
      long = length-set fs p grown ∙ before.long;
      counted = λ s k. count_at s k (eqb s p) refl;
      told = λ s k. told_at s k (eqb s p) refl;
    }

-- no more children than states
keep_length : (p : ℕ → Bool) (l : List ℕ) → length (keep p l) ≤ length l
unfolding keep
keep_length p [] = omega arith
keep_length p (x ∷ xs) = go (p x) (keep_length p xs)
  where
    go : (t : Bool) → length (keep p xs) ≤ length xs → length (cond t (x ∷ keep p xs) (keep p xs)) ≤ suc (length xs)
    go true rest = omega arith
    go false rest = omega arith

from_length : (a n : ℕ) → length (from a n) ≡ n
unfolding from
from_length a zero = refl
from_length a (suc n) = ap suc (from_length (suc a) n)

pub young_length : (c : Chart) (n s : ℕ) → length (young c n s) ≤ n
unfolding young
young_length c n s = rw (from_length 0 n) at (keep_length (is_child c s) (from 0 n))

pub young_all : (c : Chart) (s : ℕ) → young c (length c.states) s ≡ children c s
unfolding young children all_states
young_all c s = refl

-- R3 of a state, by what was counted
pub counted_fits : (c : Chart) (fs : List Offspring) (s : ℕ) → Family c (length c.states) fs → s < STATES
    → count_fits_kind (kind_of c s) (get_or fs s nobody).count (get_or fs s nobody).plain ≡ children_fit c (kind_of c s) (children c s)
counted_fits c fs s f h =
    rw (f.counted s h, f.told s h, young_all c s) (sym (children_counted c (kind_of c s) (children c s)))
