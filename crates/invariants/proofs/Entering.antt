-- Entering (01, "Firing" and "History"): each visit sets one mark and nothing else of marks and slots; a restore by slots that lead
-- on meets no empty one. Assumes nothing.
use Rattle.std.specs.Prelude.{Option, None, Some}
use mathlib.Core.Path.{◌∙◌, ◌≡◌, ap, refl, subst, sym}
use mathlib.Core.Logic.{⊎_elim}
use Prim.Native.Nat.{◌<◌, ◌≤◌, suc, zero, ℕ}
use native.Mathlib.Omega.{arith}
use mathlib.Core.Bool.{Bool, ◌&&◌, ◌||◌, false, false≢true, true}
use mathlib.Core.List.{List, [], ◌∷◌, map}
use lib.ListN.{get_or, length, length-set, set}
use lib.Seq.{get_or-set_other, get_or-set_same}
use lib.Dec.{eqb}
use lib.IntN.{ℤ}
use borrow.Author.Tests.{eq-eqb, ne_eqb}
use Rattle.invariants.proofs.Keeps.{Gives, Keeps, Leads, Outside, enter_leads, gives_bind, gives_map, then_leads, visit_leads}
use Rattle.invariants.proofs.Slots.{Goes, Lead, slot_at}
use Rattle.laws.proofs.Lists.{each_collected, same_or}
use Rattle.laws.specs.Facts.{Each, child, none_left, one_more}
use Rattle.laws.proofs.Rules.{not_o_of_a}
use Rattle.laws.proofs.Sound.{SoundChart}
use Rattle.meaning.specs.Chart.{Chart}
use Rattle.meaning.specs.Effects.{enter}
use Rattle.meaning.specs.Entry.{Visit, below, goes_on, plain, revisit, slot_way, state_of, visit}
use Rattle.meaning.specs.Lists.{has}
use Rattle.meaning.specs.Steps.{Step, each, look, refuse, when}
use Rattle.meaning.specs.Tree.{all_states, children, is_child, is_o, kind_of}
use Rattle.meaning.specs.Widget.{Ctx, is_active, is_empty, is_filled, set_active, set_queue, set_value, slot}
use Rattle.meaning.specs.declared.State.{State}
use Rattle.meaning.specs.declared.chart.Kind.{Kind}
use Rattle.meaning.specs.declared.chart.Kind.TheVariants.{A as kind_a, B as kind_b, O as kind_o}

-- the marks are those of on, and the slots are sl
pub record Marks (c : Chart) (sl : List ℤ) (on : ℕ → Bool) (u : State) : Type 0 where
  pub marks : (y : ℕ) → is_active u y ≡ on y
  pub slots : u.slots ≡ sl
  pub wide : length c.states ≤ length u.active

pub marks_outside : (c : Chart) (sl : List ℤ) (on : ℕ → Bool) → Outside (Marks c sl on)
unfolding set_value set_queue is_active
marks_outside c sl on = record {
  values = λ u v x h. record { marks = h.marks; slots = h.slots; wide = h.wide };
  queue = λ u q h. record { marks = h.marks; slots = h.slots; wide = h.wide };
}

-- one more state is in
abbrev pub with_state : ℕ → (ℕ → Bool) → ℕ → Bool
with_state s on y = eqb y s || on y

-- and all those of a list
abbrev pub with_all : List ℕ → (ℕ → Bool) → ℕ → Bool
with_all xs on y = has y xs || on y

pub marks_same : (c : Chart) (sl : List ℤ) (on now : ℕ → Bool) (u : State) → ((y : ℕ) → on y ≡ now y) → Marks c sl on u → Marks c sl now u
marks_same c sl on now u e h = record { marks = λ y. h.marks y ∙ e y; slots = h.slots; wide = h.wide }

module _ (c : Chart) (sl : List ℤ) where
  marks_entered : (s : ℕ) → s < length c.states
      → (on : ℕ → Bool) (u : State) → Marks c sl on u → Marks c sl (with_state s on) (set_active s true u)
  unfolding set_active is_active
  marks_entered s l on u h = record {
    marks = λ y. ⊎_elim
        (λ q. ap (λ i. get_or (set u.active s true) i false) q
        ∙ get_or-set_same u.active s true false (omega (arith, h.wide)) ∙ sym (ap (λ b. b || on y) (eq-eqb y s q)))
        (λ q. get_or-set_other u.active s y true false q ∙ h.marks y ∙ sym (ap (λ b. b || on y) (ne_eqb y s q)))
        (same_or y s);
    slots = h.slots;
    wide = subst (λ n. length c.states ≤ n) (sym (length-set u.active s true)) h.wide;
  }

  pub enter_marks : (a : ℤ) (s : ℕ) → s < length c.states
      → (on : ℕ → Bool) → Leads (Marks c sl on) (Marks c sl (with_state s on)) (enter c a s)
  enter_marks a s l on = enter_leads (Marks c sl on)
      (Marks c sl (with_state s on)) (marks_outside c sl (with_state s on)) c a s (marks_entered s l on)

  pub visit_marks : (a : ℤ) (v : Visit) → state_of v < length c.states
      → (on : ℕ → Bool) → Leads (Marks c sl on) (Marks c sl (with_state (state_of v) on)) (visit c a v)
  visit_marks a v l on = visit_leads (Marks c sl on) (Marks c sl (with_state (state_of v) on))
      (marks_outside c sl on) (marks_outside c sl (with_state (state_of v) on)) c a v (marks_entered (state_of v) l on)

  or_swap : (x y z : Bool) → (y || (x || z)) ≡ ((x || y) || z)
  or_swap true true z = refl
  or_swap true false z = refl
  or_swap false true z = refl
  or_swap false false z = refl

  -- any step that enters the state of a visit, for each of an itinerary
  pub each_marks : (F : Visit → Step Ctx) (R : Visit → Type 0)
      → ((v : Visit) → R v → (on : ℕ → Bool) → Leads (Marks c sl on) (Marks c sl (with_state (state_of v) on)) (F v))
      → (vs : List Visit) → Each R vs → (on : ℕ → Bool) → Leads (Marks c sl on) (Marks c sl (with_all (map state_of vs) on)) (each F vs)
  unfolding each has
  each_marks F R f [] none_left on k h = h
  each_marks F R f (v ∷ vs) (one_more r rs) on k h =
      gives_bind (λ j. Marks c sl (with_state (state_of v) on) j.state)
      (λ j. Marks c sl (with_all (map state_of (v ∷ vs)) on) j.state) (F v k) (each F vs) (f v r on k h)
      (λ j g. gives_map (λ i. Marks c sl (with_all (map state_of vs) (with_state (state_of v) on)) i.state)
      (λ i. Marks c sl (with_all (map state_of (v ∷ vs)) on) i.state) (each F vs j)
      (each_marks F R f vs rs (with_state (state_of v) on) j g)
      (λ i w. marks_same c sl _ _ i.state (λ y. or_swap (eqb y (state_of v)) (has y (map state_of vs)) (on y)) w))

  pub visits_mark : (a : ℤ) (vs : List Visit) → Each (λ v. state_of v < length c.states) vs
      → (on : ℕ → Bool) → Leads (Marks c sl on) (Marks c sl (with_all (map state_of vs) on)) (each (visit c a) vs)
  visits_mark a vs h = each_marks (visit c a) (λ v. state_of v < length c.states) (visit_marks a) vs h

-- ---- a restore by slots that lead on

-- a state that can be restored: an o state's slot is filled
abbrev pub Restorable : Chart → List ℤ → ℕ → Type 0
Restorable c sl s = kind_of c s ≡ kind_o → is_filled (slot_at sl s) ≡ true

module _ (c : Chart) (r : SoundChart c) (sl : List ℤ) (l : Lead c sl) where
  pub filled_not_empty : (x : Option ℕ) → is_filled x ≡ true → x ≡ None → ⊥
  unfolding is_filled
  filled_not_empty x e q = false≢true (sym (ap is_filled q) ∙ e)

  pub goes_component : (s y : ℕ) → kind_of c s ≡ kind_a → is_child c s y ≡ true → Goes c sl s → Goes c sl y
  goes_component s y k t g = record {
    child = λ e. g.components k y t;
    components = λ e. absurd (not_o_of_a _ e (r.components s y k t));
  }

  goes_fine : (deep : ℕ → List Visit) (s : ℕ) → Goes c sl s → ((y : ℕ) → Goes c sl y → Each (λ v. Restorable c sl (state_of v)) (deep y))
      → (x : Kind) → kind_of c s ≡ x → (z : Option ℕ)
      → slot_at sl s ≡ z → Each (λ v. Restorable c sl (state_of v)) (goes_on c deep s x (slot_way z))
  unfolding goes_on slot_way children state_of
  goes_fine deep s g ih kind_o kx None zx = absurd (filled_not_empty (slot_at sl s) (g.child kx) zx)
  goes_fine deep s g ih kind_o kx (Some d) zx = one_more (l s d zx).child (ih d (l s d zx))
  goes_fine deep s g ih kind_a kx z zx =
      each_collected (λ v. Restorable c sl (state_of v)) (λ d. plain d ∷ deep d) (is_child c s) (all_states c)
      (λ y t. one_more (goes_component s y kx t g).child (ih y (goes_component s y kx t g)))
  goes_fine deep s g ih kind_b kx z zx = none_left

  pub below_fine : (f s : ℕ) → Goes c sl s → Each (λ v. Restorable c sl (state_of v)) (below c (λ x. slot_way (slot_at sl x)) f s)
  unfolding below
  below_fine zero s g = none_left
  below_fine (suc f) s g =
      goes_fine (below c (λ x. slot_way (slot_at sl x)) f) s g (λ y q. below_fine f y q) (kind_of c s) refl (slot_at sl s) refl

  -- the test for 14 passes
  passes : (on : ℕ → Bool) (s : ℕ) → Restorable c sl s
      → Keeps (Marks c sl on) (look (λ k. when (is_o (kind_of c s) && is_empty (slot k.state s)) (λ _. refuse 14)))
  unfolding look when slot is_empty is_filled is_o
  passes on s f k h = go (kind_of c s) refl (slot_at k.state.slots s) refl
    where
      go : (x : Kind) → kind_of c s ≡ x → (z : Option ℕ) → slot_at k.state.slots s ≡ z
          → Gives (when (is_o x && is_empty z) (λ _. refuse 14) k) (λ j. Marks c sl on j.state)
      go kind_o e None q = absurd (filled_not_empty (slot_at sl s) (f e) (ap (λ w. slot_at w s) (sym h.slots) ∙ q))
      go kind_o e (Some d) q = h
      go kind_a e z q = h
      go kind_b e z q = h

  pub revisit_marks : (a : ℤ) (v : Visit) → (state_of v < length c.states) × Restorable c sl (state_of v)
      → (on : ℕ → Bool) → Leads (Marks c sl on) (Marks c sl (with_state (state_of v) on)) (revisit c a v)
  unfolding revisit
  revisit_marks a v f on = then_leads (Marks c sl on)
      (Marks c sl (with_state (state_of v) on)) (Marks c sl (with_state (state_of v) on)) _ _ (visit_marks c sl a v f.0 on)
      (passes (with_state (state_of v) on) (state_of v) f.1)
