-- The slots of a widget as plain facts (01, answer 6): each is empty or holds a child of its o state, and a filled one leads on.
-- Both ways: from the test to the facts and back. Assumes nothing.
use Rattle.std.specs.Prelude.{Option, None, Some}
use mathlib.Core.Path.{◌∙◌, ◌≡◌, ap, refl, subst, sym}
use mathlib.Core.Logic.{⊎_elim}
use Prim.Native.Nat.{◌<◌, ◌≤◌, ℕ}
use native.Mathlib.Omega.{arith}
use mathlib.Core.Bool.{◌&&◌, true}
use mathlib.Core.List.{List}
use lib.ListN.{get_or-eq_default, get_or, length}
use lib.Dec.{ltb}
use lib.IntN.{negsuc, pos, ℤ}
use borrow.Author.Tests.{eq-eqb, eqb-true, lt-ltb, ltb-true}
use Rattle.invariants.specs.Good.{SlotOk, SlotsOk}
use Rattle.laws.proofs.Lists.{and_both, and_left, and_right, every_range, le_or_lt, range_every}
use Rattle.laws.proofs.Rules.{o_of, of_o}
use Rattle.laws.proofs.Sound.{SoundChart, a_not_root, child_every, child_inside, every_child}
use Rattle.meaning.specs.Chart.{Chart}
use Rattle.meaning.specs.Foreign.{leads_on, slot_fits, slots_fit}
use Rattle.meaning.specs.Tree.{is_child, is_o, kind_of}
use Rattle.meaning.specs.Widget.{is_filled, slot}
use Rattle.meaning.specs.declared.State.{State}
use Rattle.meaning.specs.declared.chart.Kind.{Kind}
use Rattle.meaning.specs.declared.chart.Kind.TheVariants.{A as kind_a, B as kind_b, O as kind_o}
use Rattle.numbers.specs.Place.{place_of as as_slot}
use Rattle.sizes.specs.Sizes.{STATES}

-- what a slot of a list holds
abbrev pub slot_at : List ℤ → ℕ → Option ℕ
slot_at sl s = as_slot (get_or sl s (negsuc 0))

-- what a stored state needs to go on: its own slot filled, or that of each component
pub record Goes (c : Chart) (sl : List ℤ) (d : ℕ) : Type 0 where
  pub child : kind_of c d ≡ kind_o → is_filled (slot_at sl d) ≡ true
  pub components : kind_of c d ≡ kind_a → (y : ℕ) → is_child c d y ≡ true → is_filled (slot_at sl y) ≡ true

-- a filled slot never leads to an empty one
abbrev pub Lead : Chart → List ℤ → Type 0
Lead c sl = (s d : ℕ) → slot_at sl s ≡ Some d → Goes c sl d

pub same_held : (x y : ℕ) → Some x ≡ Some y → x ≡ y
same_held x y e = cc

-- what a slot holds is a child of its o state
pub slot_child : (c : Chart) (sl : List ℤ) → SlotsOk c sl
    → (s d : ℕ) → slot_at sl s ≡ Some d → (kind_of c s ≡ kind_o) × (is_child c s d ≡ true) × (d < length c.states)
slot_child c sl h s d e = go (get_or sl s (negsuc 0)) (h s) e
  where
    go : (z : ℤ) → SlotOk c s z → as_slot z ≡ Some d → (kind_of c s ≡ kind_o) × (is_child c s d ≡ true) × (d < length c.states)
    go (pos x) k q = let r = same_held x d q in subst (λ y. (kind_of c s ≡ kind_o) × (is_child c s y ≡ true) × (y < length c.states)) r k
    go (negsuc n) k q = let z : ◌≡◌ {A = ℕ} 0 1 = cc in absurd (omega arith)

-- ---- from the test

module _ (c : Chart) (h : SoundChart c) (u : State) where
  goes_of : (d : ℕ) → leads_on c u (kind_of c d) d ≡ true → Goes c u.slots d
  unfolding leads_on slot
  goes_of d e = record {
    child = λ k. by_kind kind_o k e;
    components = λ k y t. every_child c (λ x. is_filled (slot u x)) d (by_kind kind_a k e) y (child_inside c d y (a_not_root c h d k) t) t;
  }
    where
      by_kind : (k : Kind) → kind_of c d ≡ k → leads_on c u (kind_of c d) d ≡ true → leads_on c u k d ≡ true
      by_kind k q p = subst (λ x. leads_on c u x d ≡ true) q p

  fits_ok : (s : ℕ) (z : ℤ) → slot_fits c u s z ≡ true → SlotOk c s z
  unfolding slot_fits
  fits_ok s (pos d) e =
      let r2 = is_child c s d && leads_on c u (kind_of c d) d in
      let r1 = is_o (kind_of c s) && r2 in
      let f = and_right (ltb d (length c.states)) r1 e in (
        o_of _ (and_left (is_o (kind_of c s)) r2 f),
        and_left (is_child c s d) (leads_on c u (kind_of c d) d)
            (and_right (is_o (kind_of c s)) r2 f),
        ltb-true _ _ (and_left (ltb d (length c.states)) r1 e),
      )
  fits_ok s (negsuc n) e = eqb-true n 0 e

  fits_leads : (s d : ℕ) (z : ℤ) → slot_fits c u s z ≡ true → as_slot z ≡ Some d → leads_on c u (kind_of c d) d ≡ true
  unfolding slot_fits
  fits_leads s d (pos x) e q =
      let r2 = is_child c s x && leads_on c u (kind_of c x) x in
      let r1 = is_o (kind_of c s) && r2 in
      let p = and_right (is_child c s x) (leads_on c u (kind_of c x) x)
      (and_right (is_o (kind_of c s)) r2 (and_right (ltb x (length c.states)) r1 e)) in
      subst (λ y. leads_on c u (kind_of c y) y ≡ true) (same_held x d q) p
  fits_leads s d (negsuc n) e q = let z : ◌≡◌ {A = ℕ} 0 1 = cc in absurd (omega arith)

  module _ (l : length u.slots ≡ STATES) (e : slots_fit c u ≡ true) where
    each_fits : (s : ℕ) → s < STATES → slot_fits c u s (get_or u.slots s (negsuc 0)) ≡ true
    unfolding slots_fit
    each_fits s m = every_range (λ x. slot_fits c u x (get_or u.slots x (negsuc 0))) 0 STATES e s (omega arith) (omega arith)

    past : (s : ℕ) → STATES ≤ s → get_or u.slots s (negsuc 0) ≡ negsuc 0
    past s m = get_or-eq_default u.slots (negsuc 0) (omega arith)

    pub slots_of : SlotsOk c u.slots
    slots_of s = ⊎_elim (λ m. subst (SlotOk c s) (sym (past s m)) refl) (λ m. fits_ok s _ (each_fits s m)) (le_or_lt STATES s)

    pub lead_of : Lead c u.slots
    lead_of s d q = ⊎_elim
        (λ m. let z : None ≡ Some d = ap as_slot (sym (past s m)) ∙ q in let y : ◌≡◌ {A = ℕ} 0 1 = cc in absurd (omega arith))
        (λ m. goes_of d (fits_leads s d _ (each_fits s m) q))
        (le_or_lt STATES s)

-- ---- and back

module _ (c : Chart) (u : State) (k : SlotsOk c u.slots) (g : Lead c u.slots) where
  leads_by : (d : ℕ) → Goes c u.slots d → (x : Kind) → kind_of c d ≡ x → leads_on c u x d ≡ true
  unfolding leads_on slot
  leads_by d f kind_o e = f.child e
  leads_by d f kind_a e = child_every c (λ x. is_filled (slot u x)) d (λ y l t. f.components e y t)
  leads_by d f kind_b e = refl

  ok_fits : (s : ℕ) (z : ℤ) → SlotOk c s z → ((d : ℕ) → as_slot z ≡ Some d → Goes c u.slots d) → slot_fits c u s z ≡ true
  unfolding slot_fits
  ok_fits s (pos d) f h = and_both (ltb d (length c.states)) _ (lt-ltb _ _ f.2)
      (and_both (is_o (kind_of c s)) _ (of_o _ f.0) (and_both (is_child c s d) _ f.1 (leads_by d (h d refl) (kind_of c d) refl)))
  ok_fits s (negsuc n) f h = eq-eqb n 0 f

  pub slots_fit_of : slots_fit c u ≡ true
  unfolding slots_fit
  slots_fit_of = range_every (λ s. slot_fits c u s (get_or u.slots s (negsuc 0))) 0
      STATES (λ s a b. ok_fits s (get_or u.slots s (negsuc 0)) (k s) (g s))
