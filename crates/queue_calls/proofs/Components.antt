-- The components of the a states that slots hold, in one pass: where the slots of all are filled, the other tests of a slot say
-- whether it fits; where one is empty, some slot does not. Assumes nothing.
use Rattle.std.specs.Prelude.{Option}
use mathlib.Core.Path.{◌≡◌, refl, sym, ap, ◌∙◌}
use Prim.Native.Nat.{ℕ, zero, suc, ◌+◌, ◌≤◌, ◌<◌}
use mathlib.Core.Bool.{Bool, true, false, ◌&&◌, false≢true}
use mathlib.Core.List.{List, [], ◌∷◌}
use native.Mathlib.Omega.{arith}
use borrow.Author.Tests.{eq-eqb, eqb-true, ltb-true, ltb-false}
use lib.Dec.{ltb}
use lib.IntN.{ℤ, pos, negsuc}
use lib.ListN.{length, get_or, drop, get_or-eq_default}
use Rattle.sizes.specs.Sizes.{STATES}
use Rattle.numbers.specs.Place.{place_of}
use Rattle.meaning.specs.declared.State.{State}
use Rattle.meaning.specs.declared.chart.Kind.{Kind}
use Rattle.meaning.specs.declared.chart.Kind.TheVariants.{O as kind_o, A as kind_a, B as kind_b}
use Rattle.meaning.specs.Lists.{every, keep, from}
use Rattle.meaning.specs.Chart.{Chart}
use Rattle.meaning.specs.Tree.{parent_of, kind_of, is_o, all_states, is_child, children}
use Rattle.meaning.specs.Widget.{slot, is_filled}
use Rattle.meaning.specs.Foreign.{leads_on, slot_fits, slots_fit}
use Rattle.tree.proofs.Climb.{child_below}
use Rattle.queue_calls.specs.Parts.{leads_if, slot_if, slots_if, is_at, in_slot_as, in_slot, Completes}
use Rattle.queue_calls.proofs.Kept.{kept_skip, kept_none, pass_skip, pass_more, pass_no, pass_done}
use Rattle.queue_calls.proofs.Slots.{get_d_any}

and_then : (a : Bool) {b d : Bool} → (b ≡ true → d ≡ true) → (a && b) ≡ true → (a && d) ≡ true
and_then true f e = f e
and_then false f e = e

and_alike : (a : Bool) {b d : Bool} → (a ≡ true → b ≡ d) → (a && b) ≡ (a && d)
and_alike true f = f refl
and_alike false f = refl

and_no : (a : Bool) {b : Bool} → b ≡ false → (a && b) ≡ false
and_no true e = e
and_no false e = refl

module _ {A : Type 0} (p q : A → Bool) where
  every_then : ((x : A) → p x ≡ true → q x ≡ true) → (xs : List A) → every p xs ≡ true → every q xs ≡ true
  unfolding every
  every_then f [] e = refl
  every_then f (x ∷ xs) e = go (p x) refl (every_then f xs) e
    where
      go : (a : Bool) → p x ≡ a → (every p xs ≡ true → every q xs ≡ true) → (a && every p xs) ≡ true → (q x && every q xs) ≡ true
      go true t r h = rw (f x t) (r h)
      go false t r h = absurd (false≢true h)

  every_alike : ((x : A) → p x ≡ q x) → (xs : List A) → every p xs ≡ every q xs
  unfolding every
  every_alike e [] = refl
  every_alike e (x ∷ xs) = rw (e x, every_alike e xs)

every_fails : (p : ℕ → Bool) (a n i : ℕ) → i < n → p (a + i) ≡ false → every p (from a n) ≡ false
unfolding every from
every_fails p a zero i h e = absurd (omega arith)
every_fails p a (suc n) zero h e = let z : a + 0 ≡ a = omega arith in rw (rw z at e)
every_fails p a (suc n) (suc i) h e =
    let z : a + suc i ≡ suc a + i = omega arith in and_no (p a) (every_fails p (suc a) n i (omega arith) (rw z at e))

-- ---- what a slot of the lent array holds

pub at_past : (u : State) (d s : ℕ) → length u.slots ≤ s → false ≡ is_at d (slot u s)
unfolding slot is_at
at_past u d s h = rw (get_or-eq_default u.slots (negsuc 0) h)

pub at_told : (u : State) {slots : List ℤ} → u.slots ≡ slots → (d s : ℕ) → s < length slots → {p : Option ℕ}
    → p ≡ place_of (get_or slots s (pos 0)) → is_at d p ≡ is_at d (slot u s)
unfolding slot
at_told u {slots} e d s h q =
    ap (is_at d) (q ∙ ap place_of (get_d_any slots s (pos 0) (negsuc 0) h) ∙ sym (ap (λ l. place_of (get_or l s (negsuc 0))) e))

module _ (c : Chart) (u : State) where
  -- the slot of each component is filled
  abbrev pub full : ℕ → Bool
  full p = every (λ x. is_filled (slot u x)) (children c p)

  -- ---- a slot that fits without a look at components fits

  leads_then : (k : Kind) (d : ℕ) → leads_if false u k d ≡ true → leads_on c u k d ≡ true
  unfolding leads_if leads_on
  leads_then kind_o d e = e
  leads_then kind_a d e = absurd (false≢true e)
  leads_then kind_b d e = refl

  slot_then : (s : ℕ) (x : ℤ) → slot_if false c u s x ≡ true → slot_fits c u s x ≡ true
  unfolding slot_if slot_fits
  slot_then s (pos d) e =
      and_then (ltb d (length c.states)) (and_then (is_o (kind_of c s)) (and_then (is_child c s d) (leads_then (kind_of c d) d))) e
  slot_then s (negsuc n) e = e

  pub fit_without : slots_if false c u ≡ true → true ≡ slots_fit c u
  unfolding slots_if slots_fit
  fit_without e = sym (every_then _ _ (λ s. slot_then s (get_or u.slots s (negsuc 0))) (from 0 STATES) e)

  -- ---- where all are filled

  leads_alike : (k : Kind) (d : ℕ) → (k ≡ kind_a → full d ≡ true) → leads_if true u k d ≡ leads_on c u k d
  unfolding leads_if leads_on
  leads_alike kind_o d f = refl
  leads_alike kind_a d f = sym (f refl)
  leads_alike kind_b d f = refl

  slot_alike : (s : ℕ) (x : ℤ) → ((d : ℕ) → x ≡ pos d → is_child c s d ≡ true → kind_of c d ≡ kind_a → full d ≡ true)
      → slot_if true c u s x ≡ slot_fits c u s x
  unfolding slot_if slot_fits
  slot_alike s (pos d) f = and_alike (ltb d (length c.states)) (λ _. and_alike (is_o (kind_of c s)) (λ _. and_alike (is_child c s d)
      (λ m. leads_alike (kind_of c d) d (f d refl m))))
  slot_alike s (negsuc n) f = refl

  parent_is : (s d : ℕ) → is_child c s d ≡ true → parent_of c d ≡ s
  unfolding is_child
  parent_is s zero e = absurd (false≢true e)
  parent_is s (suc n) e = eqb-true (parent_of c (suc n)) s e

  held_child : (s d : ℕ) → get_or u.slots s (negsuc 0) ≡ pos d → is_child c s d ≡ true → kind_of c d ≡ kind_a → in_slot c u d ≡ true
  unfolding in_slot in_slot_as slot is_at
  held_child s d e m k = rw (k, parent_is s d m, e) (eq-eqb d d refl)

  all_full : ((p : ℕ) → in_slot c u p ≡ true → full p ≡ true) → slots_if true c u ≡ slots_fit c u
  unfolding slots_if slots_fit
  all_full f = every_alike _ _ (λ s. slot_alike s (get_or u.slots s (negsuc 0)) (λ d e m k. f d (held_child s d e m k))) (from 0 STATES)

  pub fit_with : (r : Bool) {b : Bool} → Completes c u r → r ≡ true → b ≡ slots_if true c u → b ≡ slots_fit c u
  fit_with r h t e = e ∙ sym (ap (λ x. x && slots_if true c u) t) ∙ h

  -- ---- where one is empty

  pub fit_not : (r : Bool) → Completes c u r → r ≡ false → false ≡ slots_fit c u
  fit_not r h t = sym (ap (λ x. x && slots_if true c u) t) ∙ h

  at_pos : (p : ℕ) (x : ℤ) → is_at p (place_of x) ≡ true → x ≡ pos p
  unfolding is_at
  at_pos p (pos q) e = ap pos (eqb-true q p e)
  at_pos p (negsuc n) e = absurd (false≢true e)

  inside : (s p : ℕ) → get_or u.slots s (negsuc 0) ≡ pos p → s < length u.slots
  inside s p e = go (ltb s (length u.slots)) refl
    where
      go : (b : Bool) → ltb s (length u.slots) ≡ b → s < length u.slots
      go true t = ltb-true s (length u.slots) t
      go false t =
          let h : length u.slots ≤ s = ltb-false s (length u.slots) t in
          let d : get_or u.slots s (negsuc 0) ≡ negsuc 0 = get_or-eq_default u.slots (negsuc 0) h in
          let z : negsuc 0 ≡ pos p = sym d ∙ e in
          let w : ◌≡◌ {A = ℕ} 0 1 = cc in absurd (omega arith)

  not_full : length u.slots ≡ STATES → (p : ℕ) → in_slot c u p ≡ true → full p ≡ false → false ≡ slots_fit c u
  unfolding in_slot in_slot_as slot slots_fit slot_fits leads_on
  not_full l p h f = go (kind_of c p) refl h
    where
      go : (k : Kind) → kind_of c p ≡ k → in_slot_as c u k p ≡ true → false ≡ slots_fit c u
      go kind_o m t = absurd (false≢true t)
      go kind_b m t = absurd (false≢true t)
      go kind_a m t =
          let s = parent_of c p in
          let e : get_or u.slots s (negsuc 0) ≡ pos p = at_pos p (get_or u.slots s (negsuc 0)) t in
          let n : s < length u.slots = inside s p e in
          let z : 0 + s ≡ s = omega arith in
          sym (every_fails (λ i. slot_fits c u i (get_or u.slots i (negsuc 0))) 0 STATES s (omega arith)
          (rw z (ap (slot_fits c u s) e ∙ and_no (ltb p (length c.states)) (and_no (is_o (kind_of c s)) (and_no (is_child c s p)
          (ap (λ k. leads_on c u k p) m ∙ f))))))

  -- ---- the pass: from d on, what is left to test of the components of each a state that a slot holds

  abbrev pub Leading : ℕ → ℕ → Type 0
  Leading n d = (p : ℕ) → in_slot c u p ≡ true → every (λ x. is_filled (slot u x)) (keep (is_child c p) (drop d (from 0 n))) ≡ full p

  pub leading_start : {n : ℕ} → n ≡ length c.states → Leading n 1
  unfolding children all_states is_child
  leading_start {n} e p h = ap (every (λ x. is_filled (slot u x))) (go (ltb 0 n) refl ∙ ap (λ m. keep (is_child c p) (from 0 m)) e)
    where
      go : (b : Bool) → ltb 0 n ≡ b → keep (is_child c p) (drop 1 (from 0 n)) ≡ keep (is_child c p) (from 0 n)
      go true t = sym (kept_skip (is_child c p) n 0 (ltb-true 0 n t) refl)
      go false t = kept_none (is_child c p) n 1 (omega (arith, ltb-false 0 n t)) ∙ sym (kept_none (is_child c p) n 0 (ltb-false 0 n t))

  module _ {n d : ℕ} (w : Leading n d) where
    pub leading_filled : d < n → is_filled (slot u d) ≡ true → Leading n (d + 1)
    leading_filled l f p h = go (is_child c p d) refl
      where
        go : (b : Bool) → is_child c p d ≡ b → every (λ x. is_filled (slot u x)) (keep (is_child c p) (drop (d + 1) (from 0 n))) ≡ full p
        go true t = pass_more (λ x. is_filled (slot u x)) (is_child c p) n d (w p h) l t f
        go false t = pass_skip (λ x. is_filled (slot u x)) (is_child c p) n d (w p h) l t

    pub leading_free : d < n → in_slot c u (parent_of c d) ≡ false → Leading n (d + 1)
    leading_free l f p h = go (is_child c p d) refl
      where
        go : (b : Bool) → is_child c p d ≡ b → every (λ x. is_filled (slot u x)) (keep (is_child c p) (drop (d + 1) (from 0 n))) ≡ full p
        go true t = absurd (false≢true (sym f ∙ ap (in_slot c u) (parent_is p d t) ∙ h))
        go false t = pass_skip (λ x. is_filled (slot u x)) (is_child c p) n d (w p h) l t

    pub leading_empty : length u.slots ≡ STATES → d < n → (d ≡ 0 → ⊥) → in_slot c u (parent_of c d) ≡ true → is_filled (slot u d) ≡ false
        → Completes c u false
    leading_empty m l z h f =
        let p = parent_of c d in
        not_full m p h (sym (pass_no (λ x. is_filled (slot u x)) (is_child c p) n d (w p h) l
        (child_below c p d z ∙ eq-eqb p p refl) f))

    pub leading_done : n ≤ d → Completes c u true
    leading_done l = all_full (λ p h. sym (pass_done (λ x. is_filled (slot u x)) (is_child c p) n d (w p h) l))
