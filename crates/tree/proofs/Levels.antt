-- Going from a state to its children: what is entered below a state, said with no count of levels; and that fewer states are left below a
-- child, by which every descent ends. Assumes nothing.
use mathlib.Core.Path.{◌≡◌, refl, sym, ap, ◌∙◌}
use mathlib.Core.Logic.{⊎_elim}
use Prim.Native.Nat.{ℕ, zero, suc, ◌+◌, ◌≤◌, ◌<◌}
use native.Mathlib.Nat.{eq-or-lt_of_le}
use native.Mathlib.Omega.{arith}
use mathlib.Core.Bool.{Bool, true, false, true≢false, cond}
use mathlib.Core.List.{List, ◌∷◌}
use lib.ListN.{length}
use Rattle.laws.proofs.Descent.{cong_from}
use Rattle.laws.specs.Facts.{Ordered, Sound, Under, child}
use Rattle.laws.proofs.Lists.{is_false}
use Rattle.laws.proofs.Sound.{child_later, child_parent, no_root_child}
use Rattle.laws.proofs.Tree.{under_lt, under_trans, has_under, under_has}
use Rattle.meaning.specs.Chart.{Chart}
use Rattle.meaning.specs.declared.chart.Kind.{Kind}
use Rattle.meaning.specs.declared.chart.Kind.TheVariants.{A as kind_a, B as kind_b, O as kind_o}
use Rattle.meaning.specs.Entry.{Visit, Way, on_to, defaults, stops, plain, by_default, goes_on, below, all_below}
use Rattle.meaning.specs.Lists.{from, has, keep}
use Rattle.meaning.specs.Tree.{all_states, ancestors, children, default_child, descendants, is_child, kind_of}

-- ---- with no count of levels

module _ (c : Chart) (way : ℕ → Way) (g : Sound c way) where
  -- it goes on the same where the later states do
  goes_same : (deep more : ℕ → List Visit) (s : ℕ) → ((d : ℕ) → s < d → d < length c.states → deep d ≡ more d)
      → goes_on c deep s (kind_of c s) (way s) ≡ goes_on c more s (kind_of c s) (way s)
  unfolding goes_on children all_states
  goes_same deep more s h = go (kind_of c s) refl (way s) refl
    where
      go : (k : Kind) → kind_of c s ≡ k → (w : Way) → way s ≡ w → goes_on c deep s k w ≡ goes_on c more s k w
      go kind_o e (on_to d) f = let q = g.on s d e f in ap (λ l. plain d ∷ l) (h d (child_later c g.ordered s d q.0) q.1)
      go kind_o e defaults f =
          let q = g.by s e f in
          ap (λ l. by_default s (default_child c s) ∷ l) (h (default_child c s) (child_later c g.ordered s (default_child c s)
          q.0) q.1)
      go kind_o e stops f = refl
      go kind_a e w f =
          cong_from (λ d. plain d ∷ deep d) (λ d. plain d ∷ more d) (is_child c s) 0 (length c.states)
          (λ x l t. ap (λ y. plain x ∷ y) (h x (child_later c g.ordered s x t) (omega arith)))
      go kind_b e w f = refl

  -- enough levels are enough
  enough : (f m s : ℕ) → s < length c.states → length c.states ≤ s + f → length c.states ≤ s + m
      → below c way f s ≡ below c way m s
  unfolding below
  enough zero m s l h k = absurd (omega arith)
  enough (suc f) zero s l h k = absurd (omega arith)
  enough (suc f) (suc m) s l h k = goes_same (below c way f) (below c way m) s (λ d j i. enough f m d i (omega arith) (omega arith))

  pub all_goes : (s : ℕ) → s < length c.states → all_below c way s ≡ goes_on c (all_below c way) s (kind_of c s) (way s)
  unfolding all_below below
  all_goes s l = go (length c.states) refl
    where
      go : (n : ℕ) → length c.states ≡ n → below c way n s ≡ goes_on c (below c way (length c.states)) s (kind_of c s) (way s)
      go zero e = absurd (omega arith)
      go (suc m) e = goes_same (below c way m) (below c way (length c.states)) s
          (λ d j i. enough m (length c.states) d i (omega arith) (omega arith))

-- ---- fewer states are left below a child

module _ (p q : ℕ → Bool) (h : (x : ℕ) → p x ≡ true → q x ≡ true) where
  keep_most : (a n : ℕ) → length (keep p (from a n)) ≤ length (keep q (from a n))
  unfolding keep from
  keep_most a zero = omega arith
  keep_most a (suc n) = go (p a) (q a) refl refl (keep_most (suc a) n)
    where
      go : (s t : Bool) → p a ≡ s → q a ≡ t → length (keep p (from (suc a) n)) ≤ length (keep q (from (suc a) n))
          → length (cond s (a ∷ keep p (from (suc a) n)) (keep p (from (suc a) n))) ≤ length (cond t (a ∷ keep q (from (suc a) n))
          (keep q (from (suc a) n)))
      go true true e f i = omega arith
      go true false e f i = absurd (true≢false (sym (h a e) ∙ f))
      go false true e f i = omega arith
      go false false e f i = i

  module _ (x : ℕ) (t : q x ≡ true) (u : p x ≡ false) where
    keep_fewer : (a n : ℕ) → a ≤ x → x < a + n → length (keep p (from a n)) < length (keep q (from a n))
    unfolding keep from
    keep_fewer a zero l m = absurd (omega arith)
    keep_fewer a (suc n) l m = ⊎_elim (λ e. here e)
        (λ k. later (p a) (q a) refl refl (keep_fewer (suc a) n k (omega arith))) (eq-or-lt_of_le l)
      where
        here : a ≡ x → length (keep p (from a (suc n))) < length (keep q (from a (suc n)))
        here e = let i = keep_most (suc a) n in rw (ap p e ∙ u, ap q e ∙ t) (omega arith)

        later : (s r : Bool) → p a ≡ s → q a ≡ r → length (keep p (from (suc a) n)) < length (keep q (from (suc a) n))
            → length (cond s (a ∷ keep p (from (suc a) n)) (keep p (from (suc a) n))) < length (cond r (a ∷ keep q (from (suc a) n))
            (keep q (from (suc a) n)))
        later true true e f i = omega arith
        later true false e f i = absurd (true≢false (sym (h a e) ∙ f))
        later false true e f i = omega arith
        later false false e f i = i

child_under : (c : Chart) (s d : ℕ) → is_child c s d ≡ true → Under c s d
child_under c s zero t = absurd (no_root_child c s t)
child_under c s (suc n) t = child {n = n} (child_parent c s n t)

pub child_fewer : (c : Chart) → Ordered c → (s d : ℕ) → is_child c s d ≡ true → d < length c.states
    → length (descendants c d) < length (descendants c s)
unfolding descendants all_states
child_fewer c o s d t l =
    keep_fewer (λ x. has d (ancestors c x)) (λ x. has s (ancestors c x))
    (λ x e. under_has c o s x (under_trans (child_under c s d t) (has_under c d x e)))
    d (under_has c o s d (child_under c s d t)) (is_false _
    (λ e. omega (arith, under_lt c o (has_under c d d e)))) 0 (length c.states) (omega arith) (omega arith)
