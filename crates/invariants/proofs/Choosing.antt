-- The chosen transitions (01, "Chosen"): each is a transition of the chart that was enabled, and their spans lie apart.
-- Assumes nothing.
use mathlib.Core.Path.{◌∙◌, ◌≡◌, ap, refl, sym}
use mathlib.Core.Logic.{⊎_elim}
use Prim.Native.Nat.{◌<◌, ℕ}
use native.Mathlib.Omega.{arith}
use mathlib.Core.Bool.{Bool, cond, false, false≢true, true, true≢false}
use mathlib.Core.List.{List, [], ◌++◌, ◌∷◌, reverse}
use lib.ListN.{length}
use lib.Dec.{eqb}
use borrow.Author.Tests.{eqb-true}
use Rattle.laws.proofs.Lists.{each_both, each_joined, each_kept, each_range, each_weaker, or_cases, or_off, or_off_left, or_off_right}
use Rattle.laws.proofs.Ranges.{has_joined}
use Rattle.laws.specs.Facts.{Each, none_left, one_more}
use Rattle.meaning.specs.Chart.{Chart}
use Rattle.meaning.specs.Lists.{concat_map, exists, from, has, keep}
use Rattle.meaning.specs.Reaction.{choosing_order, chosen, enabled, meets, thin}
use Rattle.meaning.specs.Tree.{all_states, all_transitions, span, trans_row}
use Rattle.meaning.specs.declared.State.{State}

each_concat : {A B : Type 0} (P : B → Type 0) (f : A → List B) (xs : List A) → ((x : A) → Each P (f x)) → Each P (concat_map f xs)
unfolding concat_map
each_concat P f [] h = none_left
each_concat P f (x ∷ xs) h = each_joined P (f x) (concat_map f xs) (h x) (each_concat P f xs h)

kept_pass : {A : Type 0} (q : A → Bool) (xs : List A) → Each (λ x. q x ≡ true) (keep q xs)
unfolding keep
kept_pass q [] = none_left
kept_pass q (x ∷ xs) = go (q x) refl (kept_pass q xs)
  where
    go : (b : Bool) → q x ≡ b → Each (λ y. q y ≡ true) (keep q xs) → Each (λ y. q y ≡ true) (cond b (x ∷ keep q xs) (keep q xs))
    go true e ih = one_more e ih
    go false e ih = ih

pub ordered_each : (P : ℕ → Type 0) (c : Chart) (ts : List ℕ) → Each P ts → Each P (choosing_order c ts)
unfolding choosing_order
ordered_each P c ts h = each_concat P (λ s. keep (λ t. eqb (trans_row c t).source s) ts)
    (reverse (all_states c)) (λ s. each_kept P (λ t. eqb (trans_row c t).source s) ts h)

thin_each : (P : ℕ → Type 0) (c : Chart) (gone ts : List ℕ) → Each P ts → Each P (thin c gone ts)
unfolding thin
thin_each P c gone [] none_left = none_left
thin_each P c gone (t ∷ ts) (one_more p ps) = go (meets (span c t) gone) (thin_each P c gone ts ps) (thin_each P c (span c t ++ gone) ts ps)
  where
    go : (b : Bool) → Each P (thin c gone ts) → Each P (thin c (span c t ++ gone) ts)
        → Each P (elim b [ true ↦ thin c gone ts | false ↦ t ∷ thin c (span c t ++ gone) ts ])
    go true x y = x
    go false x y = one_more p y

-- each chosen one is a transition of the chart, and is enabled
pub chosen_enabled : (c : Chart) (e : ℕ) (u : State) → Each (λ t. (t < length c.transitions) × (enabled c e u t ≡ true)) (chosen c e u)
unfolding chosen all_transitions
chosen_enabled c e u = thin_each _ c [] _ (ordered_each _ c _
    (each_both (λ t. t < length c.transitions) (λ t. enabled c e u t ≡ true) (keep (enabled c e u) (from 0 (length c.transitions)))
    (each_kept (λ t. t < length c.transitions) (enabled c e u)
    (from 0 (length c.transitions)) (each_range 0 (length c.transitions) (length c.transitions) (omega arith)))
    (kept_pass (enabled c e u) (from 0 (length c.transitions)))))

-- ---- spans that lie apart

meets_left : (xs ys zs : List ℕ) → meets xs (ys ++ zs) ≡ false → meets xs ys ≡ false
unfolding meets exists
meets_left [] ys zs e = refl
meets_left (x ∷ xs) ys zs e = or_off (has x ys) (meets xs ys)
    (or_off_left (has x ys) (has x zs) (sym (has_joined x ys zs) ∙ or_off_left (has x (ys ++ zs)) (meets xs (ys ++ zs)) e))
    (meets_left xs ys zs (or_off_right (has x (ys ++ zs)) (meets xs (ys ++ zs)) e))

meets_right : (xs ys zs : List ℕ) → meets xs (ys ++ zs) ≡ false → meets xs zs ≡ false
unfolding meets exists
meets_right [] ys zs e = refl
meets_right (x ∷ xs) ys zs e = or_off (has x zs) (meets xs zs)
    (or_off_right (has x ys) (has x zs) (sym (has_joined x ys zs) ∙ or_off_left (has x (ys ++ zs)) (meets xs (ys ++ zs)) e))
    (meets_right xs ys zs (or_off_right (has x (ys ++ zs)) (meets xs (ys ++ zs)) e))

-- two lists that do not meet have nothing in common
pub apart_lists : (xs ys : List ℕ) (x : ℕ) → meets xs ys ≡ false → has x xs ≡ true → has x ys ≡ true → ⊥
unfolding meets exists has
apart_lists [] ys x e p q = false≢true p
apart_lists (z ∷ xs) ys x e p q = ⊎_elim
    (λ r. true≢false (sym q ∙ ap (λ i. has i ys) (eqb-true x z r) ∙ or_off_left (has z ys) (meets xs ys) e))
    (λ r. apart_lists xs ys x (or_off_right (has z ys) (meets xs ys) e) r q)
    (or_cases (eqb x z) (has x xs) p)

-- each one's span is apart from those of the ones before it
pub data Apart (c : Chart) : List ℕ → Type 0 where
  none_apart : Apart c []
  one_apart : {t : ℕ} {ts : List ℕ} → Each (λ x. meets (span c x) (span c t) ≡ false) ts → Apart c ts → Apart c (t ∷ ts)

thin_clear : (c : Chart) (gone ts : List ℕ) → Each (λ x. meets (span c x) gone ≡ false) (thin c gone ts)
unfolding thin
thin_clear c gone [] = none_left
thin_clear c gone (t ∷ ts) = go (meets (span c t) gone) refl (thin_clear c gone ts) (thin_clear c (span c t ++ gone) ts)
  where
    go : (b : Bool) → meets (span c t) gone ≡ b → Each (λ x. meets (span c x) gone ≡ false) (thin c gone ts)
        → Each (λ x. meets (span c x) (span c t ++ gone) ≡ false) (thin c (span c t ++ gone) ts)
        → Each (λ x. meets (span c x) gone ≡ false) (elim b [ true ↦ thin c gone ts | false ↦ t ∷ thin c (span c t ++ gone) ts ])
    go true e x y = x
    go false e x y = one_more e (each_weaker _ _ _ (λ i q. meets_right (span c i) (span c t) gone q) y)

thin_apart : (c : Chart) (gone ts : List ℕ) → Apart c (thin c gone ts)
unfolding thin
thin_apart c gone [] = none_apart
thin_apart c gone (t ∷ ts) = go (meets (span c t) gone) (thin_apart c gone ts) (thin_apart c (span c t ++ gone) ts)
  where
    go : (b : Bool) → Apart c (thin c gone ts) → Apart c (thin c (span c t ++ gone) ts)
        → Apart c (elim b [ true ↦ thin c gone ts | false ↦ t ∷ thin c (span c t ++ gone) ts ])
    go true x y = x
    go false x y = one_apart (each_weaker _ _ _ (λ i q. meets_left (span c i) (span c t) gone q) (thin_clear c (span c t ++ gone) ts)) y

pub chosen_apart : (c : Chart) (e : ℕ) (u : State) → Apart c (chosen c e u)
unfolding chosen
chosen_apart c e u = thin_apart c [] (choosing_order c (keep (enabled c e u) (all_transitions c)))
