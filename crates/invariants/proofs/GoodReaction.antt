-- What every step keeps, for the steps of a reaction (01, "One reaction"): leaving a span, entering an itinerary, restoring,
-- firing, a step, null steps. Assumes nothing.
use Rattle.std.specs.Prelude.{Option, None, Some}
use mathlib.Core.Path.{subst, sym}
use Prim.Native.Nat.{◌<◌, suc, zero, ℕ}
use native.Mathlib.Omega.{arith}
use mathlib.Core.List.{reverse}
use lib.ListN.{length}
use lib.IntN.{pos, ℤ}
use Rattle.invariants.proofs.Choosing.{chosen_enabled}
use Rattle.invariants.proofs.Good.{acts_good, emit_good, leave_good, visit_good}
use Rattle.invariants.specs.Good.{Good, SlotsOk}
use Rattle.invariants.proofs.Slots.{slot_child}
use Rattle.laws.specs.Facts.{Each, Sound, TargetFacts}
use Rattle.laws.proofs.Lists.{each_kept, each_mapped, each_range, each_reversed, each_weaker}
use Rattle.laws.proofs.Reach.{pass_states}
use Rattle.laws.proofs.Scope.{scope_facts}
use Rattle.laws.proofs.Sound.{SoundChart}
use Rattle.laws.proofs.Stays.{Stays, each_stays, if_any_stays, look_stays, then_stays, when_stays}
use Rattle.laws.proofs.Value.{SizedChart}
use Rattle.laws.proofs.Ways.{defaults_sound, owner_sound, slots_sound, towards_sound}
use Rattle.meaning.specs.Chart.{Chart}
use Rattle.meaning.specs.Effects.{leave}
use Rattle.meaning.specs.Entry.{Visit, Way, all_below, by_defaults, by_slots, restore, restore_by, revisit, state_of, towards}
use Rattle.meaning.specs.Entry.{towards_owner, visit}
use Rattle.meaning.specs.Entry.{visit_towards}
use Rattle.meaning.specs.Reaction.{chosen, fire, fire_to, leave_active, leave_all, settle, settle_in, step}
use Rattle.meaning.specs.Steps.{each}
use Rattle.meaning.specs.Tree.{all_states, descendants, scope, trans_row}
use Rattle.meaning.specs.Widget.{Ctx, is_active, slot}
use Rattle.meaning.specs.declared.Entry.TheVariants.{Taken as taken}
use Rattle.meaning.specs.declared.State.{State}
use Rattle.meaning.specs.declared.chart.Owner.TheVariants.{TransitionOf as transition_of}
use Rattle.meaning.specs.declared.chart.Target.{Target}
use Rattle.meaning.specs.declared.chart.Target.TheVariants.{History as history, InPlace as in_place, To as to}
use Rattle.sizes.specs.Sizes.{NULL_STEPS}

module _ (c : Chart) (h : SoundChart c) where
  -- what is entered below a state are states of the chart
  pub below_inside : (way : ℕ → Way) → Sound c way
      → (b : ℕ) → b < length c.states → Each (λ v. state_of v < length c.states) (all_below c way b)
  unfolding descendants all_states
  below_inside way g b l = each_mapped (λ x. x < length c.states) state_of (all_below c way b)
      (subst (Each (λ x. x < length c.states)) (sym (pass_states c way g b l))
      (each_kept _ _ _ (each_kept _ _ _ (each_range 0 (length c.states) (length c.states) (omega arith)))))

  pub descendants_inside : (s : ℕ) → Each (λ x. x < length c.states) (descendants c s)
  unfolding descendants all_states
  descendants_inside s = each_kept _ _ _ (each_range 0 (length c.states) (length c.states) (omega arith))

module _ (c : Chart) (h : SoundChart c) (z : SizedChart c) (a : ℤ) where
  visits_good : (way : ℕ → Way) → Sound c way → (b : ℕ) → b < length c.states → Stays (Good c) (each (visit c a) (all_below c way b))
  visits_good way g b l = each_stays (Good c)
      (visit c a) (λ v. state_of v < length c.states) (visit_good c h z a) (all_below c way b) (below_inside c h way g b l)

  -- ---- leaving

  leave_active_good : (s : ℕ) → s < length c.states → Stays (Good c) (leave_active c a s)
  unfolding leave_active
  leave_active_good s l =
      look_stays (Good c) _ (λ k g. when_stays (Good c) (is_active k.state s) (leave c a s) (λ e. leave_good c h z a s l))

  pub leave_all_good : (s : ℕ) → Stays (Good c) (leave_all c a (descendants c s))
  unfolding leave_all
  leave_all_good s = each_stays (Good c) (leave_active c a) (λ x. x < length c.states) leave_active_good (reverse (descendants c s))
      (each_reversed (λ x. x < length c.states) (descendants c s) (descendants_inside c h s))

  -- ---- restoring

  revisit_good : (v : Visit) → state_of v < length c.states → Stays (Good c) (revisit c a v)
  unfolding revisit
  revisit_good v l = then_stays (Good c) _ _ (visit_good c h z a v l) (look_stays (Good c) _ (λ k g. when_stays (Good c) _ _ (λ e j f. tt)))

  pub by_slots_sound : (u : State) → SlotsOk c u.slots → Sound c (by_slots u)
  unfolding slot
  by_slots_sound u f = slots_sound c h u (λ s d e. let q = slot_child c u.slots f s d e in (q.1, q.2))

  pub restore_good : (b : ℕ) → b < length c.states → Stays (Good c) (restore c a b)
  unfolding restore restore_by
  restore_good b l = look_stays (Good c) _ (λ k g. go k g (slot k.state b))
    where
      go : (k : Ctx) → Good c k → (x : Option ℕ) → Stays (Good c) (restore_by c a b k.state x)
      go k g None = visits_good by_defaults (defaults_sound c h) b l
      go k g (Some d) = each_stays (Good c) (revisit c a)
          (λ v. state_of v < length c.states) revisit_good (all_below c (by_slots k.state) b)
          (below_inside c h (by_slots k.state) (by_slots_sound k.state g.slots) b l)

  visit_towards_good : (b : ℕ) → b < length c.states
      → (v : Visit) → state_of v < length c.states → Stays (Good c) (visit_towards c a b v)
  unfolding visit_towards
  visit_towards_good b l v m = then_stays (Good c) _ _ (visit_good c h z a v m) (when_stays (Good c) _ _ (λ e. restore_good b l))

  -- ---- firing

  fire_to_good : (t s : ℕ) (x : Target) → TargetFacts c s x → Stays (Good c) (fire_to c a t s x)
  unfolding fire_to
  fire_to_good t s (to d) f =
      then_stays (Good c) _ _ (leave_all_good (scope c s d)) (then_stays (Good c) _ _ (acts_good c h z a (transition_of t))
      (visits_good (towards c d) (towards_sound c h d f.0) (scope c s d) (scope_facts c h s d f.2 f.1).inside))
  fire_to_good t s (history b) f =
      then_stays (Good c) _ _ (leave_all_good (scope c s b)) (then_stays (Good c) _ _ (acts_good c h z a (transition_of t))
      (each_stays (Good c) (visit_towards c a b)
      (λ v. state_of v < length c.states) (visit_towards_good b f.0) (all_below c (towards_owner c b) (scope c s b))
      (below_inside c h (towards_owner c b) (owner_sound c h b f.0) (scope c s b) (scope_facts c h s b f.3 f.1).inside)))
  fire_to_good t s in_place f = acts_good c h z a (transition_of t)

  pub fire_good : (t : ℕ) → t < length c.transitions → Stays (Good c) (fire c a t)
  unfolding fire
  fire_good t l = then_stays (Good c) _ _ (emit_good c (taken t) l)
      (fire_to_good t (trans_row c t).source (trans_row c t).target (h.transitions t l).target)

  pub step_good : (e : ℕ) → Stays (Good c) (step c e a)
  unfolding step
  step_good e = look_stays (Good c) _
      (λ k g. each_stays (Good c) (fire c a) (λ t. t < length c.transitions) fire_good (chosen c e k.state)
      (each_weaker _ _ _ (λ t q. q.0) (chosen_enabled c e k.state)))

module _ (c : Chart) (h : SoundChart c) (z : SizedChart c) where
  settle_in_good : (n : ℕ) → Stays (Good c) (settle_in c n)
  unfolding settle_in
  settle_in_good zero = look_stays (Good c) _ (λ k g. if_any_stays (Good c) (chosen c 0 k.state) _ (λ j f. tt))
  settle_in_good (suc n) = look_stays (Good c) _ (λ k g. if_any_stays (Good c)
      (chosen c 0 k.state) _ (then_stays (Good c) _ _ (step_good c h z (pos 0) 0) (settle_in_good n)))

  pub settle_good : Stays (Good c) (settle c)
  unfolding settle
  settle_good = settle_in_good NULL_STEPS
