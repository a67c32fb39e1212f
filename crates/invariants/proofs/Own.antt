-- A state that passes the test for 6 is one from which all goes on, and what a reaction ends in passes it again; and a fresh state.
-- Assumes nothing.
use Rattle.std.specs.Prelude.{None, Some}
use mathlib.Core.Path.{◌∙◌, ◌≡◌, ap, refl, subst, sym}
use Prim.Native.Nat.{◌+◌, ◌-◌, ◌<◌, ◌≤◌, suc, zero, ℕ}
use native.Mathlib.Omega.{arith}
use mathlib.Core.Bool.{Bool, ◌&&◌, ◌||◌, cond, false, true}
use mathlib.Core.List.{List, [], ◌++◌, map}
use lib.ListN.{get_or-append, get_or, length, length-append, length-map, length-replicate, replicate}
use lib.Seq.{get_or-append-add}
use lib.Dec.{eqb}
use lib.IntN.{negsuc, pos, ℤ}
use lib.Signed.{le_z}
use borrow.Author.Tests.{eq-eqb, eqb-true, ne_eqb}
use Rattle.invariants.proofs.Config.{Config, config_of, legal_of, marks_legal, no_hole}
use Rattle.invariants.proofs.Entering.{Marks, enter_marks, visits_mark, with_all, with_state}
use Rattle.invariants.proofs.Enters.{entered_fired}
use Rattle.invariants.proofs.Fired.{fired, legal_stays}
use Rattle.invariants.proofs.Firing.{stands}
use Rattle.invariants.proofs.Good.{enter_good, visit_good}
use Rattle.invariants.specs.Good.{Good, Sized, SlotOk, Traced, Values}
use Rattle.invariants.proofs.GoodReaction.{below_inside}
use Rattle.invariants.proofs.Keeps.{Gives, gives_bind, gives_holds, gives_map}
use Rattle.invariants.proofs.Left.{left_on}
use Rattle.invariants.proofs.Slots.{Lead, lead_of, slots_fit_of, slots_of}
use Rattle.invariants.proofs.Stepping.{Whole, settle_stands}
use Rattle.invariants.proofs.Values.{empty_fits, values_fit_of, values_of}
use Rattle.laws.proofs.Lists.{and_both, and_left, and_right}
use Rattle.laws.specs.Facts.{Each, none_left}
use Rattle.laws.proofs.Reach.{reach, reached}
use Rattle.laws.proofs.Rules.{not_o_of_a}
use Rattle.laws.proofs.Scope.{root_above}
use Rattle.laws.proofs.Sound.{SoundChart}
use Rattle.laws.proofs.Stays.{each_stays}
use Rattle.laws.proofs.Tree.{under_has}
use Rattle.laws.proofs.Value.{SizedChart, get_d_map}
use Rattle.laws.proofs.Ways.{defaults_sound}
use Rattle.meaning.specs.Calls.{enter_first, fresh, start_steps}
use Rattle.meaning.specs.Chart.{Chart, no_var}
use Rattle.meaning.specs.Effects.{enter}
use Rattle.meaning.specs.Entry.{Visit, all_below, by_defaults, state_of, visit}
use Rattle.meaning.specs.Foreign.{legal, marks_fit, own, queue_fits, slots_fit, values_fit}
use Rattle.meaning.specs.Lists.{concat_map, has, padded}
use Rattle.meaning.specs.Reaction.{settle}
use Rattle.meaning.specs.Rules.{within_row}
use Rattle.meaning.specs.Steps.{◌then◌, bind, each}
use Rattle.meaning.specs.Tree.{ancestors, climb, kind_of, var_row}
use Rattle.meaning.specs.Widget.{Ctx, begin, is_active}
use Rattle.meaning.specs.declared.State.{State}
use Rattle.meaning.specs.declared.chart.Kind.TheVariants.{O as kind_o}
use Rattle.meaning.specs.declared.chart.VarRow.{VarRow}
use Rattle.numbers.specs.Place.{place_of as as_slot}
use Rattle.queue.specs.Queue.{empty_queue, no_item as none_item}
use Rattle.sizes.specs.Sizes.{QUEUE, STATES, VARIABLES}

-- a started state that is its chart's own
pub record OwnState (c : Chart) (u : State) : Type 0 where
  pub sized : Sized u
  pub started : u.started ≡ true
  pub is_own : own c u ≡ true

pub nothing_traced : (c : Chart) → Traced c []
unfolding concat_map
nothing_traced c = ([], refl, none_left)

module _ (c : Chart) (r : SoundChart c) (z : SizedChart c) where
  pub own_whole : (u : State) (n : ℕ) → OwnState c u → Whole c (begin u n)
  unfolding own begin
  own_whole u n h =
      let q = queue_fits c.events u.queue in
      let s = slots_fit c u && q in
      let v = values_fit c.vars u.vars && s in
      let m = marks_fit (length c.states) u && v in
      let e1 = and_right (legal c u) m h.is_own in
      let e2 = and_right (marks_fit (length c.states) u) v e1 in
      let e3 = and_right (values_fit c.vars u.vars) s e2 in
      let fits = and_left (slots_fit c u) q e3 in (
        record {
          config = config_of c r u (and_left (legal c u) m h.is_own) (and_left (marks_fit (length c.states) u) v e1);
          lead = lead_of c r u h.sized.slots fits;
        },
        record {
          started = h.started;
          sized = h.sized;
          values = values_of c.vars u.vars (and_left (values_fit c.vars u.vars) s e2);
          queue = and_right (slots_fit c u) q e3;
          slots = slots_of c r u h.sized.slots fits;
          trace = nothing_traced c;
        },
      )

  pub whole_own : (k : Ctx) → Whole c k → OwnState c k.state
  unfolding own
  whole_own k w = record {
    sized = w.1.sized;
    started = w.1.started;
    is_own = and_both (legal c k.state) _ (legal_of c r k.state w.0.config)
        (and_both (marks_fit (length c.states) k.state) _ (marks_legal c r k.state w.0.config)
        (and_both (values_fit c.vars k.state.vars) _
        (values_fit_of c.vars k.state.vars (omega (arith, z.vars, w.1.sized.vars)) w.1.values)
        (and_both (slots_fit c k.state) _ (slots_fit_of c k.state w.1.slots w.0.lead) w.1.queue)));
  }

-- ---- a fresh state

pub replicate_same : {A : Type 0} (n i : ℕ) (d : A) → get_or (replicate n d) i d ≡ d
replicate_same zero i d = refl
replicate_same (suc n) zero d = refl
replicate_same (suc n) (suc i) d = replicate_same n i d

first_values : (vs : List VarRow) (m : ℕ) → ((v : ℕ) → v < length vs
    → (le_z (var_row vs v).low (var_row vs v).first ≡ true) × (le_z (var_row vs v).first (var_row vs v).high ≡ true))
    → Values vs (map (λ x. x.first) vs ++ replicate m (pos 0))
unfolding within_row var_row
first_values vs m h = record {
  inside = λ v l. subst (λ x. within_row (get_or vs v no_var) x ≡ true) (sym (at v l))
      (and_both (le_z (get_or vs v no_var).low (get_or vs v no_var).first) _ (h v l).0 (h v l).1);
  outside = λ v l. past v l;
}
  where
    firsts : List ℤ
    firsts = map (λ x. x.first) vs

    long : length firsts ≡ length vs
    long = length-map vs (λ x. x.first)

    at : (v : ℕ) → v < length vs → get_or (firsts ++ replicate m (pos 0)) v (pos 0) ≡ (get_or vs v no_var).first
    at v l = get_or-append firsts (replicate m (pos 0)) (pos 0) v (omega (arith, long)) ∙ get_d_map (λ x. x.first) vs v (pos 0) no_var l

    past : (v : ℕ) → length vs ≤ v → get_or (firsts ++ replicate m (pos 0)) v (pos 0) ≡ pos 0
    past v l =
        let e : v ≡ length firsts + (v - length firsts) = omega (arith, long) in
        ap (λ i. get_or (firsts ++ replicate m (pos 0)) i (pos 0)) e
        ∙ get_or-append-add firsts (replicate m (pos 0)) (v - length firsts) (pos 0) ∙ replicate_same m (v - length firsts) (pos 0)

padded_long : (vs : List VarRow) (n : ℕ)
    → length vs ≤ n → length (map (λ x. x.first) vs ++ replicate (n - length (map (λ x. x.first) vs)) (pos 0)) ≡ n
padded_long vs n l =
    length-append (map (λ x. x.first) vs) (replicate (n - length (map (λ x. x.first) vs)) (pos 0))
    ∙ ap (λ i. length (map (λ x. x.first) vs) + i) (length-replicate (n - length (map (λ x. x.first) vs)) (pos 0)) ∙ total
  where
    total : length (map (λ x. x.first) vs) + (n - length (map (λ x. x.first) vs)) ≡ n
    total = omega (arith, length-map vs (λ x. x.first))

module _ (c : Chart) (r : SoundChart c) (z : SizedChart c) where
  pub fresh_good : (n : ℕ) → Good c (begin (fresh c) n)
  unfolding begin fresh padded empty_queue
  fresh_good n = record {
    started = refl;
    sized = record {
      active = length-replicate STATES false;
      slots = length-replicate STATES (negsuc 0);
      vars = padded_long c.vars VARIABLES z.vars;
      items = length-replicate QUEUE none_item;
    };
    values = first_values c.vars (VARIABLES - length (map (λ x. x.first) c.vars)) r.rows;
    queue = empty_fits c.events;
    slots = λ s. subst (SlotOk c s) (sym (replicate_same STATES s (negsuc 0))) refl;
    trace = nothing_traced c;
  }

  abbrev no_slots : List ℤ
  no_slots = replicate STATES (negsuc 0)

  pub fresh_lead : Lead c no_slots
  fresh_lead s d e =
      let q : None ≡ Some d = sym (ap as_slot (replicate_same STATES s (negsuc 0))) ∙ e in
      let y : ◌≡◌ {A = ℕ} 0 1 = cc in
      absurd (omega arith)

  pub fresh_marks : (n : ℕ) → Marks c no_slots (λ y. false) (begin (fresh c) n).state
  unfolding begin fresh is_active
  fresh_marks n = record {
    marks = λ y. replicate_same STATES y false;
    slots = refl;
    wide = subst (λ i. length c.states ≤ i) (sym (length-replicate STATES false)) z.states;
  }

-- ---- the root alone, a configuration with a hole at the root

root_only : (c : Chart) → SoundChart c → Config c (λ y. eqb y 0) (λ x. x ≡ 0)
root_only c r = record {
  root = eq-eqb 0 0 refl;
  inside = λ s e. omega (arith, eqb-true s 0 e, r.two);
  up = λ n e. absurd (omega (arith, eqb-true (suc n) 0 e));
  one = λ s k e q. absurd (q (eqb-true s 0 e));
  only = λ s y x k ty tx ey ex. eqb-true y 0 ey ∙ sym (eqb-true x 0 ex);
  all = λ s y k e t. absurd (not_o_of_a _ k (subst (λ i. kind_of c i ≡ kind_o) (sym (eqb-true s 0 e)) r.root_o));
}

root_left : (c : Chart) → SoundChart c → (y : ℕ) → (eqb y 0 || false) ≡ left_on c (λ x. eqb x 0) 0 y
unfolding left_on ancestors climb has
root_left c r zero = refl
root_left c r (suc n) = ap (λ t. t || false) (ne_eqb (suc n) 0 (λ q. omega arith)) ∙ sym
    (ap (λ t. cond t false (eqb (suc n) 0)) (under_has c r.ordered 0 (suc n) (root_above c r.ordered (suc n) (omega arith))))

module _ (c : Chart) (r : SoundChart c) (z : SizedChart c) where
  abbrev reach_0 : ℕ → Bool
  reach_0 x = reach c by_defaults 0 x x

  inside_0 : 0 < length c.states
  inside_0 = omega (arith, r.two)

  start_legal : Config c (fired c (λ y. eqb y 0) reach_0 0) no_hole
  unfolding by_defaults
  start_legal = legal_stays c r by_defaults reach_0 (λ y. eqb y 0) 0
      (λ x. x ≡ 0) (defaults_sound c r) (reached c by_defaults r.ordered 0) (root_only c r) (eq-eqb 0 0 refl) no_hole
      (λ x i e k w. let y : ◌≡◌ {A = ℕ} 0 1 = cc in absurd (omega arith)) (λ x i w. i.1 w)

  start_marks : (y : ℕ)
      → with_all (map state_of (all_below c by_defaults 0)) (with_state 0 (λ x. false)) y ≡ fired c (λ x. eqb x 0) reach_0 0 y
  start_marks y = ap (λ t. has y (map state_of (all_below c by_defaults 0)) || t) (root_left c r y)
      ∙ entered_fired c r by_defaults (defaults_sound c r) 0 inside_0 (λ x. eqb x 0) y

  -- the root and its defaults entered: a state that is the chart's own
  pub start_enters : (n : ℕ)
      → Gives (bind (enter c (pos 0) 0 (begin (fresh c) n)) (each (visit c (pos 0)) (all_below c by_defaults 0))) (Whole c)
  start_enters n =
      gives_bind AtRoot (Whole c) (enter c (pos 0) 0 k) (each (visit c (pos 0)) vs)
      (gives_holds (λ j. Marks c sl (with_state 0 (λ y. false)) j.state) (Good c) (enter c (pos 0) 0 k)
      (enter_marks c sl (pos 0) 0 inside_0 (λ y. false) k (fresh_marks c r z n))
      (enter_good c r z (pos 0) 0 inside_0 k (fresh_good c r z n)))
      (λ j p. gives_map {A = Ctx} (λ i. Marks c sl (with_all (map state_of vs) (with_state 0 (λ y. false))) i.state × Good c i)
      (Whole c) (each (visit c (pos 0)) vs j)
      (gives_holds (λ i. Marks c sl (with_all (map state_of vs) (with_state 0 (λ y. false))) i.state)
      (Good c) (each (visit c (pos 0)) vs j)
      (visits_mark c sl (pos 0) vs inside (with_state 0 (λ y. false)) j p.0)
      (each_stays (Good c) (visit c (pos 0)) (λ v. state_of v < length c.states) (visit_good c r z (pos 0)) vs inside j p.1))
      (λ i q. (
        stands c sl (with_all (map state_of vs) (with_state 0 (λ y. false))) (fired c (λ y. eqb y 0) reach_0 0)
            (fresh_lead c r z) start_legal start_marks i.state q.0,
        q.1,
      )))
    where
      k : Ctx
      k = begin (fresh c) n

      sl : List ℤ
      sl = replicate STATES (negsuc 0)

      vs : List Visit
      vs = all_below c by_defaults 0

      AtRoot : Ctx → Type 0
      AtRoot j = Marks c sl (with_state 0 (λ y. false)) j.state × Good c j

      inside : Each (λ v. state_of v < length c.states) vs
      inside = below_inside c r by_defaults (defaults_sound c r) 0 inside_0

  -- start ends in a state that is the chart's own
  pub start_stands : (n : ℕ) → Gives (start_steps c (begin (fresh c) n)) (Whole c)
  unfolding start_steps ◌then◌
  start_stands n = gives_bind (Whole c) (Whole c) (enter_first c (begin (fresh c) n)) (settle c) (start_enters n) (settle_stands c r z)
