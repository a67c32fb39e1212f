-- A history (01, "History"): the owner is entered, and below it what its slot says. Which states that marks, and that from slots
-- that lead on the configuration becomes legal and no empty slot is met. Assumes nothing.
use Rattle.std.specs.Prelude.{Option, None, Some}
use mathlib.Core.Path.{◌∙◌, ◌≡◌, ap, refl, subst, sym}
use Prim.Native.Nat.{◌<◌, suc, zero, ℕ}
use native.Mathlib.Omega.{arith}
use mathlib.Core.Bool.{Bool, ◌&&◌, ◌||◌, false, false≢true, true}
use mathlib.Core.List.{List, [], ◌∷◌, map}
use lib.ListN.{length}
use lib.Dec.{eqb}
use lib.IntN.{ℤ}
use Rattle.invariants.proofs.Entering.{Marks, Restorable, below_fine, each_marks, marks_same, revisit_marks, visit_marks}
use Rattle.invariants.proofs.Entering.{visits_mark, with_all, with_state}
use Rattle.invariants.proofs.Enters.{eqb_sym}
use Rattle.invariants.proofs.GoodReaction.{below_inside}
use Rattle.invariants.proofs.Keeps.{Gives, Leads, gives_bind, gives_map, then_leads}
use Rattle.invariants.proofs.Slots.{Goes, Lead, slot_at, slot_child}
use Rattle.invariants.specs.Good.{SlotsOk}
use Rattle.laws.specs.Facts.{Each, Sound, child, none_left, one_more}
use Rattle.laws.proofs.Lists.{each_both}
use Rattle.laws.proofs.Rules.{not_o_of_a, not_o_of_b}
use Rattle.laws.proofs.Sound.{SoundChart, child_inside, every_child}
use Rattle.meaning.specs.Chart.{Chart}
use Rattle.meaning.specs.Entry.{Visit, Way, all_below, below, by_defaults, by_slots, defaults, on_to, restore, restore_by}
use Rattle.meaning.specs.Entry.{revisit, slot_way, state_of}
use Rattle.meaning.specs.Entry.{visit, visit_towards}
use Rattle.meaning.specs.Lists.{every, has}
use Rattle.meaning.specs.Steps.{◌then◌, each, look, ok, when}
use Rattle.meaning.specs.Tree.{children, is_child, kind_of}
use Rattle.meaning.specs.Widget.{Ctx, is_filled, slot}
use Rattle.meaning.specs.declared.chart.Kind.TheVariants.{B as kind_b, O as kind_o}

-- with what a restore goes on: by the slots where the owner's is filled, else by defaults
unfoldable pub restore_way : Option ℕ → List ℤ → ℕ → Way
restore_way None sl x = defaults
restore_way (Some d) sl x = slot_way (slot_at sl x)

-- a b state has no child
pub no_child_of_b : (c : Chart) → SoundChart c → (s y : ℕ) → kind_of c s ≡ kind_b → is_child c s y ≡ true → ⊥
unfolding every
no_child_of_b c r zero y k t = not_o_of_b _ k r.root_o
no_child_of_b c r (suc s) y k t =
    let e : every (λ _. false) (children c (suc s)) ≡ true = subst (λ l. every (λ _. false) l ≡ true) (sym (r.leaf (suc s) k)) refl in
    false≢true (every_child c (λ _. false) (suc s) e y (child_inside c (suc s) y (omega arith) t) t)

module _ (c : Chart) (r : SoundChart c) (sl : List ℤ) (ok : SlotsOk c sl) (lead : Lead c sl) where
  pub slots_way_sound : Sound c (λ x. slot_way (slot_at sl x))
  unfolding slot_way
  slots_way_sound = record {
    ordered = r.ordered;
    on = λ s d k e. go s d (slot_at sl s) refl e;
    by = λ s k e. absurd (not_by (slot_at sl s) e);
    leaf = r.leaf;
  }
    where
      same_on : (d e : ℕ) → on_to d ≡ on_to e → d ≡ e
      same_on d e p = cc

      go : (s d : ℕ) (x : Option ℕ) → slot_at sl s ≡ x → slot_way x ≡ on_to d → (is_child c s d ≡ true) × (d < length c.states)
      go s d None q e = let z : ◌≡◌ {A = ℕ} 0 1 = cc in absurd (omega arith)
      go s d (Some y) q e = let f = slot_child c sl ok s d (q ∙ ap Some (same_on y d e)) in (f.1, f.2)

      not_by : (x : Option ℕ) → slot_way x ≡ defaults → ⊥
      not_by None e = let z : ◌≡◌ {A = ℕ} 0 1 = cc in omega arith
      not_by (Some d) e = let z : ◌≡◌ {A = ℕ} 0 1 = cc in omega arith

  defaults_way_sound : Sound c (λ x. defaults)
  defaults_way_sound = record {
    ordered = r.ordered;
    on = λ s d k e. let z : ◌≡◌ {A = ℕ} 0 1 = cc in absurd (omega arith);
    by = λ s k e. r.default s k;
    leaf = r.leaf;
  }

  pub restore_sound : (x : Option ℕ) → Sound c (restore_way x sl)
  unfolding restore_way
  restore_sound None = defaults_way_sound
  restore_sound (Some d) = slots_way_sound

  module _ (b : ℕ) (l : b < length c.states) (kb : kind_of c b ≡ kind_o) where
    -- the owner's own slot is filled, so it leads on
    pub owner_goes : (d : ℕ) → slot_at sl b ≡ Some d → Goes c sl b
    unfolding is_filled
    owner_goes d e = record { child = λ k. ap is_filled e; components = λ k. absurd (not_o_of_a _ k kb) }

    -- ---- what a restore marks

    abbrev restored : List ℕ
    restored = map state_of (all_below c (restore_way (slot_at sl b) sl) b)

    restore_by_marks : (a : ℤ) (on : ℕ → Bool) (k : Ctx) → Marks c sl on k.state → (x : Option ℕ) → slot_at sl b ≡ x
        → Gives (restore_by c a b k.state x k)
        (λ j. Marks c sl (with_all (map state_of (all_below c (restore_way x sl) b)) on) j.state)
    unfolding restore_by restore_way by_defaults all_below by_slots slot
    restore_by_marks a on k h None e =
        visits_mark c sl a (all_below c (λ x. defaults) b) (below_inside c r (λ x. defaults) defaults_way_sound b l) on k h
    restore_by_marks a on k h (Some d) e =
        subst (λ w. Gives (each (revisit c a) (below c (λ x. slot_way (slot_at w x)) (length c.states) b) k) (λ j. Marks c sl
        (with_all (map state_of (below c (λ x. slot_way (slot_at sl x)) (length c.states) b)) on) j.state)) (sym h.slots)
        (each_marks c sl (revisit c a) (λ v. (state_of v < length c.states) × Restorable c sl (state_of v))
        (revisit_marks c r sl lead a) (below c (λ x. slot_way (slot_at sl x)) (length c.states) b)
        (each_both _ _ _ (below_inside c r (λ x. slot_way (slot_at sl x)) slots_way_sound b l)
        (below_fine c r sl lead (length c.states) b (owner_goes d e))) on k h)

    pub restore_marks : (a : ℤ) (on : ℕ → Bool) → Leads (Marks c sl on) (Marks c sl (with_all restored on)) (restore c a b)
    unfolding restore look slot
    restore_marks a on k h =
        subst (λ w. Gives (restore_by c a b k.state (slot_at w b) k) (λ j. Marks c sl (with_all restored on) j.state))
        (sym h.slots)
        (restore_by_marks a on k h (slot_at sl b) refl)

    -- ---- what the visits towards the owner mark

    -- those of the visits, and where the owner is one of them those of the restore
    abbrev with_restore : List ℕ → (ℕ → Bool) → ℕ → Bool
    with_restore xs on y = has y xs || ((has b xs && has y restored) || on y)

    owner_on : (p q f g o : Bool) → (q || ((f && g) || (g || (p || o)))) ≡ ((p || q) || (((true || f) && g) || o))
    owner_on true true true true o = refl
    owner_on true true true false o = refl
    owner_on true true false true o = refl
    owner_on true true false false o = refl
    owner_on true false true true o = refl
    owner_on true false true false o = refl
    owner_on true false false true o = refl
    owner_on true false false false o = refl
    owner_on false true true true o = refl
    owner_on false true true false o = refl
    owner_on false true false true o = refl
    owner_on false true false false o = refl
    owner_on false false true true o = refl
    owner_on false false true false o = refl
    owner_on false false false true o = refl
    owner_on false false false false o = refl

    owner_off : (p q z o : Bool) → (q || (z || (p || o))) ≡ ((p || q) || (z || o))
    owner_off true true z o = refl
    owner_off true false true o = refl
    owner_off true false false o = refl
    owner_off false true z o = refl
    owner_off false false true o = refl
    owner_off false false false o = refl

    one_towards : (a : ℤ) (v : Visit) → state_of v < length c.states → (on : ℕ → Bool) (t : Bool) → eqb (state_of v) b ≡ t
        → Leads (Marks c sl on) (Marks c sl (λ y. (t && has y restored) || with_state (state_of v) on y))
        (visit c a v then when t (restore c a b))
    unfolding when
    one_towards a v m on true e = then_leads (Marks c sl on)
        (Marks c sl (with_state (state_of v) on)) _ _ _ (visit_marks c sl a v m on) (restore_marks a (with_state (state_of v) on))
    one_towards a v m on false e =
        then_leads (Marks c sl on) (Marks c sl (with_state (state_of v) on)) _ _ _ (visit_marks c sl a v m on) (λ k h. h)

    towards_same : (v : Visit) (xs : List ℕ) (on : ℕ → Bool) (t : Bool) → eqb (state_of v) b ≡ t → (y : ℕ)
        → with_restore xs (λ i. (t && has i restored) || with_state (state_of v) on i) y ≡ with_restore (state_of v ∷ xs) on y
    unfolding has
    towards_same v xs on true e y = owner_on (eqb y (state_of v)) (has y xs) (has b xs) (has y restored) (on y)
        ∙ ap (λ z. (eqb y (state_of v) || has y xs) || (((z || has b xs) && has y restored) || on y)) (sym (eqb_sym b (state_of v) ∙ e))
    towards_same v xs on false e y = owner_off (eqb y (state_of v)) (has y xs) (has b xs && has y restored) (on y)
        ∙ ap (λ z. (eqb y (state_of v) || has y xs) || (((z || has b xs) && has y restored) || on y)) (sym (eqb_sym b (state_of v) ∙ e))

    pub towards_marks : (a : ℤ) (vs : List Visit) → Each (λ v. state_of v < length c.states) vs → (on : ℕ → Bool)
        → Leads (Marks c sl on) (Marks c sl (with_restore (map state_of vs) on)) (each (visit_towards c a b) vs)
    unfolding each has visit_towards
    towards_marks a [] none_left on k h = h
    towards_marks a (v ∷ vs) (one_more m ms) on k h =
        gives_bind (λ j. Marks c sl (next (eqb (state_of v) b)) j.state)
        (λ j. Marks c sl (with_restore (state_of v ∷ map state_of vs) on) j.state)
        ((visit c a v then when (eqb (state_of v) b) (restore c a b)) k)
        (each (visit_towards c a b) vs) (one_towards a v m on (eqb (state_of v) b) refl k h)
        (λ j g. gives_map {A = Ctx} (λ i. Marks c sl (with_restore (map state_of vs) (next (eqb (state_of v) b))) i.state)
        (λ i. Marks c sl (with_restore (state_of v ∷ map state_of vs) on) i.state) (each (visit_towards c a b) vs j)
        (towards_marks a vs ms (next (eqb (state_of v) b)) j g)
        (λ i w. marks_same c sl _ _ i.state (towards_same v (map state_of vs) on (eqb (state_of v) b) refl) w))
      where
        next : Bool → ℕ → Bool
        next t i = (t && has i restored) || with_state (state_of v) on i
