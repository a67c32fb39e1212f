-- A firing keeps every slot empty or holding a child of its state: leaving stores a state in its own parent, and nothing else changes a
-- slot. Assumes nothing.
use Rattle.std.specs.Prelude.{None, Some, Ok}
use mathlib.Core.Path.{◌≡◌, refl, sym, ap, subst, ◌∙◌}
use mathlib.Core.Logic.{⊎_elim}
use Prim.Native.Nat.{ℕ, zero, suc, ◌≤◌, ◌<◌}
use mathlib.Core.Bool.{Bool, true, false, cond}
use mathlib.Core.List.{List, reverse}
use native.Mathlib.Omega.{arith}
use lib.ListN.{length, set, length-set}
use lib.Seq.{get_or-set_same, get_or-set_other}
use lib.IntN.{ℤ, pos, negsuc}
use Rattle.sizes.specs.Sizes.{STATES}
use Rattle.numbers.specs.Place.{place_of}
use Rattle.laws.proofs.Lists.{each_reversed, same_or}
use Rattle.laws.proofs.Sound.{SoundChart, parent_child}
use Rattle.invariants.proofs.GoodReaction.{descendants_inside}
use Rattle.laws.proofs.Stays.{Stays, each_stays, look_stays, then_stays, when_stays}
use Rattle.invariants.proofs.Keeps.{Outside, acts_keep, change_leads, emit_keeps, holds_of, then_leads}
use Rattle.invariants.proofs.Slots.{slot_child}
use Rattle.invariants.specs.Good.{SlotsOk}
use Rattle.meaning.specs.Chart.{Chart}
use Rattle.meaning.specs.declared.State.{State}
use Rattle.meaning.specs.declared.chart.Owner.{Owner}
use Rattle.meaning.specs.declared.chart.Owner.TheVariants.{ExitOf as exit_of}
use Rattle.meaning.specs.Effects.{leave, mark_left, o_parent, perform_all, store_in}
use Rattle.meaning.specs.Reaction.{leave_active, leave_all}
use Rattle.meaning.specs.Steps.{Step}
use Rattle.meaning.specs.Tree.{descendants, is_child, is_o, kind_of, parent_of}
use Rattle.meaning.specs.Widget.{Ctx, is_active, set_active, set_queue, set_slot, set_value}
use Rattle.widget.specs.View.{ctx, Did}
use Rattle.acts.proofs.Marking.{did_keeps}
use Rattle.tree.specs.Courses.{slot_of, Led}

-- the slots of a state of the chart's own (answer 6) are such
pub led_of : (c : Chart) (slots : List ℤ) → SlotsOk c slots → length slots ≡ STATES → Led c slots
led_of c slots h l = record { long = l; holding = λ s d e. let q = slot_child c slots h s d e in (q.1, q.2) }

-- ---- one slot

same_held : (x y : ℕ) → Some x ≡ Some y → x ≡ y
same_held x y e = cc

led_set : (c : Chart) (slots : List ℤ) (p s : ℕ) → Led c slots → p < STATES → is_child c p s ≡ true → s < length c.states
    → Led c (set slots p (pos s))
led_set c slots p s h l t n = record {
  long = length-set slots p (pos s) ∙ h.long;
  holding = λ x d e. ⊎_elim
      (λ q. let r : s ≡ d = same_held s d (sym (ap place_of (get_or-set_same slots p (pos s) (negsuc 0) (omega (arith, h.long))))
      ∙ ap (λ y. slot_of (set slots p (pos s)) y) (sym q) ∙ e) in
      subst (λ y. (is_child c x y ≡ true) × (y < length c.states)) r (subst (λ y. is_child c y s ≡ true) (sym q) t, n))
      (λ q. h.holding x d (sym (ap place_of (get_or-set_other slots p x (pos s) (negsuc 0) q)) ∙ e))
      (same_or x p);
}

-- ---- leaving

-- of a state, and of all that a step works on
abbrev pub LedState : Chart → State → Type 0
LedState c u = Led c u.slots

abbrev pub LeadsOn : Chart → Ctx → Type 0
LeadsOn c k = Led c k.state.slots

module _ (c : Chart) (h : SoundChart c) (small : length c.states ≤ STATES) (a : ℤ) where
  outside : Outside (LedState c)
  unfolding set_value set_queue
  outside = record { values = λ u v x l. l; queue = λ u q l. l }

  pub acts_led : (o : Owner) → Stays (LeadsOn c) (perform_all c a o)
  acts_led o k l = holds_of (LeadsOn c) (perform_all c a o k) (acts_keep (LedState c) outside c a o k l)

  stored_led : (s : ℕ) → s < length c.states → (u : State) → LedState c u
      → LedState c (store_in (o_parent c s) s (set_active s false u))
  unfolding o_parent store_in set_active set_slot
  stored_led zero l u f = f
  stored_led (suc n) l u f = go (is_o (kind_of c (parent_of c (suc n))))
    where
      go : (b : Bool) → LedState c (store_in (cond b (Some (parent_of c (suc n))) None) (suc n) (set_active (suc n) false u))
      go true = led_set c u.slots (parent_of c (suc n)) (suc n) f (omega (arith, h.ordered.falls n)) (parent_child c (parent_of c
          (suc n)) n refl) l
      go false = f

  leave_led : (s : ℕ) → s < length c.states → Stays (LeadsOn c) (leave c a s)
  unfolding leave mark_left
  leave_led s l = then_stays (LeadsOn c) (mark_left (o_parent c s) s) (perform_all c a (exit_of s))
      (λ k f. holds_of (LeadsOn c) (mark_left (o_parent c s) s k) (then_leads (LedState c) (LedState c) (LedState c) _ _
      (emit_keeps (LedState c) _) (change_leads (LedState c) (LedState c) _ (stored_led s l)) k f))
      (acts_led (exit_of s))

  leave_active_led : (s : ℕ) → s < length c.states → Stays (LeadsOn c) (leave_active c a s)
  unfolding leave_active
  leave_active_led s l = look_stays (LeadsOn c) _ (λ k g. when_stays (LeadsOn c) (is_active k.state s) (leave c a s)
      (λ e. leave_led s l))

  pub leave_all_led : (s : ℕ) → Stays (LeadsOn c) (leave_all c a (descendants c s))
  unfolding leave_all
  leave_all_led s = each_stays (LeadsOn c) (leave_active c a) (λ x. x < length c.states) leave_active_led (reverse (descendants c s))
      (each_reversed (λ x. x < length c.states) (descendants c s) (descendants_inside c h s))

-- ---- after a function that did such a step

pub led_after : (c : Chart) {F : Step Ctx} → Stays (LeadsOn c) F → {u : State} {t : List ℤ} {at n : ℕ} {u₁ : State} {t₁ : List ℤ}
    → Did F u t at (Ok n) u₁ t₁ → Led c u.slots → Led c u₁.slots
unfolding ctx
led_after c f d l = did_keeps (LeadsOn c) f d l
