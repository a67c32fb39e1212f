-- One firing (01, "Firing"): from a started state of the chart's own, with the scope active, it leads to another, changes no mark
-- outside its span, and never meets an empty slot. Assumes nothing.
use mathlib.Core.Path.{◌∙◌, ◌≡◌, refl, subst, sym}
use Prim.Native.Nat.{◌<◌, ℕ}
use native.Mathlib.Omega.{arith}
use mathlib.Core.Bool.{Bool, ◌&&◌, ◌||◌, true}
use mathlib.Core.List.{List, map}
use lib.ListN.{length}
use lib.IntN.{ℤ}
use Rattle.invariants.proofs.Config.{Config, config_same, no_hole}
use Rattle.invariants.proofs.Entering.{Marks, visits_mark, with_all}
use Rattle.invariants.proofs.Enters.{entered_fired}
use Rattle.invariants.proofs.Fired.{fired, legal_stays}
use Rattle.invariants.proofs.Good.{acts_good}
use Rattle.invariants.specs.Good.{Good}
use Rattle.invariants.proofs.GoodReaction.{below_inside, leave_all_good}
use Rattle.invariants.proofs.HistoryFired.{fired_elsewhere, history_legal, history_marks, on_2, towards_goes}
use Rattle.invariants.proofs.Keeps.{Gives, Outside, acts_keep, gives_bind, gives_both, gives_holds, gives_map}
use Rattle.invariants.proofs.Left.{Left, leave_all_leads, left_on, left_outside}
use Rattle.invariants.proofs.Restoring.{restore_way, towards_marks}
use Rattle.invariants.proofs.Slots.{Lead, slot_at}
use Rattle.laws.proofs.Lists.{is_false}
use Rattle.laws.proofs.Reach.{reach, reached}
use Rattle.laws.specs.Facts.{TargetFacts, Under}
use Rattle.laws.proofs.Scope.{scope_facts}
use Rattle.laws.proofs.Sound.{SoundChart}
use Rattle.laws.proofs.Tree.{has_under, under_trans}
use Rattle.laws.proofs.Value.{SizedChart}
use Rattle.laws.proofs.Ways.{owner_sound, towards_sound}
use Rattle.meaning.specs.Chart.{Chart}
use Rattle.meaning.specs.Effects.{perform_all}
use Rattle.meaning.specs.Entry.{Visit, all_below, state_of, towards, towards_owner, visit, visit_towards}
use Rattle.meaning.specs.Lists.{has}
use Rattle.meaning.specs.Reaction.{fire_to, leave_all}
use Rattle.meaning.specs.Steps.{Step, ◌then◌, each}
use Rattle.meaning.specs.Tree.{ancestors, descendants, kind_of, scope}
use Rattle.meaning.specs.Widget.{Ctx, is_active, set_queue, set_value}
use Rattle.meaning.specs.declared.State.{State}
use Rattle.meaning.specs.declared.chart.Kind.TheVariants.{O as kind_o}
use Rattle.meaning.specs.declared.chart.Owner.TheVariants.{TransitionOf as transition_of}
use Rattle.meaning.specs.declared.chart.Target.{Target}
use Rattle.meaning.specs.declared.chart.Target.TheVariants.{History as history, InPlace as in_place, To as to}

-- what stands between firings: a legal configuration, and filled slots that lead on
pub record Standing (c : Chart) (u : State) : Type 0 where
  pub config : Config c (is_active u) no_hole
  pub lead : Lead c u.slots

pub standing_outside : (c : Chart) → Outside (Standing c)
unfolding set_value set_queue is_active
standing_outside c = record {
  values = λ u v x h. record { config = h.config; lead = h.lead };
  queue = λ u q h. record { config = h.config; lead = h.lead };
}

pub stands : (c : Chart) (sl : List ℤ) (now on : ℕ → Bool)
    → Lead c sl → Config c on no_hole → ((y : ℕ) → now y ≡ on y) → (u : State) → Marks c sl now u → Standing c u
stands c sl now on l g e u h = record {
  config = config_same c on (is_active u) no_hole (λ y. sym (h.marks y ∙ e y)) g;
  lead = subst (Lead c) (sym h.slots) l;
}

-- the scope of a transition with this source and target is active
abbrev pub ArmedBy : Chart → State → ℕ → Target → Type 0
ArmedBy c u s (to d) = is_active u (scope c s d) ≡ true
ArmedBy c u s (history b) = is_active u (scope c s b) ≡ true
ArmedBy c u s in_place = Unit {0}

-- outside the span the marks are as they were
abbrev pub MovedBy : Chart → State → State → ℕ → Target → Type 0
MovedBy c u v s (to d) = (y : ℕ) → (Under c (scope c s d) y → ⊥) → is_active v y ≡ is_active u y
MovedBy c u v s (history b) = (y : ℕ) → (Under c (scope c s b) y → ⊥) → is_active v y ≡ is_active u y
MovedBy c u v s in_place = (y : ℕ) → is_active v y ≡ is_active u y

same_marks : (k : Ctx) → State → Type 0
same_marks k u = (y : ℕ) → is_active u y ≡ is_active k.state y

marks_kept : (k : Ctx) → Outside (same_marks k)
unfolding set_value set_queue is_active same_marks
marks_kept k = record { values = λ u v x h. h; queue = λ u q h. h }

module _ (c : Chart) (r : SoundChart c) (z : SizedChart c) (a : ℤ) where
  -- the exits and the transition's actions, for a scope s
  abbrev LeftGood : (ℕ → Bool) → ℕ → Ctx → Type 0
  LeftGood on s j = Left c on s j.state × Good c j

  left_then : (Q : Ctx → Type 0) (t s : ℕ) (F : Step Ctx) (k : Ctx) → Good c k → Standing c k.state → s < length c.states
      → ((j : Ctx) → LeftGood (is_active k.state) s j → Gives (F j) Q)
      → Gives ((leave_all c a (descendants c s) then perform_all c a (transition_of t) then F) k) Q
  unfolding ◌then◌
  left_then Q t s F k g h l f =
      gives_bind (LeftGood on s) Q (leave_all c a (descendants c s) k) (perform_all c a (transition_of t) then F)
      (gives_holds (λ j. Left c on s j.state) (Good c) (leave_all c a (descendants c s) k)
      (leave_all_leads c r a s l k h.config h.lead (omega (arith, z.states, g.sized.slots))) (leave_all_good c r z a s k g))
      (λ j p. gives_bind (LeftGood on s) Q (perform_all c a (transition_of t) j) F
      (gives_holds (λ i. Left c on s i.state) (Good c) (perform_all c a (transition_of t) j) (acts_keep (Left c on s)
      (left_outside c on s) c a (transition_of t) j p.0) (acts_good c r z a (transition_of t) j p.1)) f)
    where
      on : ℕ → Bool
      on = is_active k.state

  begin_marks : (on : ℕ → Bool) (s : ℕ) (j : Ctx) → LeftGood on s j → Marks c j.state.slots (left_on c on s) j.state
  begin_marks on s j p = record { marks = p.0.marks; slots = refl; wide = omega (arith, z.states, p.1.sized.active) }

  -- ---- to a state

  module _ (s d : ℕ) (ld : d < length c.states)
      (k : Ctx) (h : Standing c k.state) (top : is_active k.state s ≡ true) (ls : s < length c.states) where
    abbrev reach_to : ℕ → Bool
    reach_to x = reach c (towards c d) s x x

    to_legal : Config c (fired c (is_active k.state) reach_to s) no_hole
    to_legal = legal_stays c r (towards c d) reach_to
        (is_active k.state) s no_hole (towards_sound c r d ld) (reached c (towards c d) r.ordered s) h.config top no_hole
        (λ x i e q w. towards_goes c d x w) (λ x i w. w)

    to_enters : (j : Ctx) → LeftGood (is_active k.state) s j
        → Gives (each (visit c a) (all_below c (towards c d) s) j)
        (λ i. Standing c i.state × ((y : ℕ) → (Under c s y → ⊥) → is_active i.state y ≡ is_active k.state y))
    to_enters j p = gives_map {A = Ctx} (λ i. Marks c j.state.slots now i.state) _ (each (visit c a) (all_below c (towards c d) s) j)
        (visits_mark c j.state.slots a (all_below c (towards c d) s) (below_inside c r (towards c d)
        (towards_sound c r d ld) s ls) (left_on c (is_active k.state) s) j (begin_marks (is_active k.state) s j p))
        (λ i m. (
          stands c j.state.slots now (fired c (is_active k.state) reach_to s) p.0.lead to_legal same i.state m,
          λ y n. m.marks y ∙ same y
              ∙ fired_elsewhere c (is_active k.state) reach_to s y (is_false (has s (ancestors c y)) (λ e. n (has_under c s y e))),
        ))
      where
        now : ℕ → Bool
        now = with_all (map state_of (all_below c (towards c d) s)) (left_on c (is_active k.state) s)

        same : (y : ℕ) → with_all (map state_of (all_below c (towards c d) s)) (left_on c (is_active k.state) s) y
            ≡ fired c (is_active k.state) reach_to s y
        same = entered_fired c r (towards c d) (towards_sound c r d ld) s ls (is_active k.state)

  -- ---- to a history

  module _ (s b : ℕ) (lb : b < length c.states) (kb : kind_of c b ≡ kind_o) (us : Under c s b)
      (k : Ctx) (h : Standing c k.state) (top : is_active k.state s ≡ true) (ls : s < length c.states) where
    history_enters : (j : Ctx) → LeftGood (is_active k.state) s j
        → Gives (each (visit_towards c a b) (all_below c (towards_owner c b) s) j)
        (λ i. Standing c i.state × ((y : ℕ) → (Under c s y → ⊥) → is_active i.state y ≡ is_active k.state y))
    history_enters j p = gives_map {A = Ctx} (λ i. Marks c sl now i.state) _ (each (visit_towards c a b) vs j)
        (towards_marks c r sl p.1.slots p.0.lead b
        lb kb a vs (below_inside c r (towards_owner c b) (owner_sound c r b lb) s ls) (left_on c on s) j (begin_marks on s j p))
        (λ i m. (
          stands c sl now (on_2 c r sl p.1.slots p.0.lead b lb kb on h.config s ls us top) p.0.lead
              (history_legal c r sl p.1.slots p.0.lead b lb kb on h.config s ls us top) same i.state m,
          λ y n. m.marks y ∙ same y ∙ elsewhere y n,
        ))
      where
        on : ℕ → Bool
        on = is_active k.state

        sl : List ℤ
        sl = j.state.slots

        vs : List Visit
        vs = all_below c (towards_owner c b) s

        now : ℕ → Bool
        now y = has y (map state_of vs) ||
            ((has b (map state_of vs) && has y (map state_of (all_below c (restore_way (slot_at sl b) sl) b))) || left_on c on s y)

        same : (y : ℕ) → now y ≡ on_2 c r sl p.1.slots p.0.lead b lb kb on h.config s ls us top y
        same = history_marks c r sl p.1.slots p.0.lead b lb kb on h.config s ls us top

        elsewhere : (y : ℕ) → (Under c s y → ⊥) → on_2 c r sl p.1.slots p.0.lead b lb kb on h.config s ls us top y ≡ on y
        elsewhere y n =
            fired_elsewhere c _ _ b y (is_false (has b (ancestors c y)) (λ e. n (under_trans us (has_under c b y e))))
            ∙ fired_elsewhere c on _ s y (is_false (has s (ancestors c y)) (λ e. n (has_under c s y e)))

  -- ---- a firing

  pub fire_to_stands : (t s : ℕ) (x : Target)
      → TargetFacts c s x → (k : Ctx) → Good c k → Standing c k.state → ArmedBy c k.state s x
      → Gives (fire_to c a t s x k) (λ j. Standing c j.state × MovedBy c k.state j.state s x)
  unfolding fire_to same_marks
  fire_to_stands t s (to d) f k g h e =
      let q = scope_facts c r s d f.2 f.1 in
      left_then _ t (scope c s d) _ k g h q.inside (to_enters (scope c s d) d f.0 k h e q.inside)
  fire_to_stands t s (history b) f k g h e =
      let q = scope_facts c r s b f.3 f.1 in
      left_then _ t (scope c s b) _ k g h q.inside (history_enters (scope c s b) b f.0 f.2 q.above_target k h e q.inside)
  fire_to_stands t s in_place f k g h e =
      gives_both (λ j. Standing c j.state) (λ j. same_marks k j.state)
      (perform_all c a (transition_of t) k) (acts_keep (Standing c) (standing_outside c) c a (transition_of t) k h)
      (acts_keep (same_marks k) (marks_kept k) c a (transition_of t) k (λ y. refl))
