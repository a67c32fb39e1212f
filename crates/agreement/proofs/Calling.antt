-- Each call over the compiled plan gives what it gives over the chart (01, "Answer numbers"), from a widget not yet started and from a
-- started state that is the chart's own. In the order: the plan machine's test for 6 passes what the chart's passes; the tests 7 and 6;
-- start; run, post and discard. Assumes nothing.
use mathlib.Core.Path.{◌∙◌, ◌≡◌, ap, refl, subst, sym}
use mathlib.Core.Logic.{inl, inr}
use Prim.Native.Nat.{◌+◌, ◌-◌, ◌<◌, ◌≤◌, ℕ}
use native.Mathlib.Omega.{arith}
use mathlib.Core.Bool.{◌&&◌, true}
use mathlib.Core.List.{List}
use lib.ListN.{drop, get_or, length, take}
use lib.Seq.{get_or-drop, get_or-take, length-take-le, take-append_seam}
use lib.IntN.{negsuc, pos, ℤ}
use borrow.Author.Tests.{eq-eqb, lt-ltb}
use Rattle.agreement.proofs.Stepping.{BlocksFire, settle_agrees, steps_agree}
use Rattle.invariants.specs.CallLists.{Call, make, to_discard, to_post, to_run, to_start}
use Rattle.invariants.proofs.CallLists.{Lived}
use Rattle.invariants.proofs.Calls.{front_stands}
use Rattle.invariants.proofs.Keeps.{holds_of}
use Rattle.invariants.proofs.Own.{OwnState, own_whole, start_enters}
use Rattle.invariants.specs.Good.{SlotOk, SlotsOk}
use Rattle.invariants.proofs.Stepping.{Whole, step_stands}
use Rattle.laws.proofs.Lists.{and_both, and_left, and_right, at_every}
use Rattle.laws.proofs.Rules.{o_inside}
use Rattle.laws.proofs.Sound.{SoundChart}
use Rattle.laws.proofs.Steps.{Holds, bind_cong_where}
use Rattle.laws.proofs.Value.{SizedChart}
use Rattle.meaning.specs.Calls.{Outcome, discard, fresh, fresh_by, outcome, post, react, run, start, start_steps, take_front, tests}
use Rattle.meaning.specs.Chart.{Chart}
use Rattle.meaning.specs.Compile.{block, code_of, head_order, plan_of, start_block}
use Rattle.meaning.specs.Effects.{enqueue, enter}
use Rattle.meaning.specs.Entry.{all_below, by_defaults, visit}
use Rattle.meaning.specs.Foreign.{event_fits, legal, legal_at, marks_fit, own, queue_fits}
use Rattle.meaning.specs.Foreign.{slots_fit, values_fit}
use Rattle.meaning.specs.Lists.{concat_map, every}
use Rattle.meaning.specs.Machine.{plan_discard, plan_post, plan_react, plan_run, plan_settle, plan_start, plan_start_steps, plan_step}
use Rattle.meaning.specs.Machine.{plan_tests, run_block, plan_own, plan_slot_fits, plan_slots_fit}
use Rattle.meaning.specs.Plan.{Plan}
use Rattle.meaning.specs.Reaction.{settle, step}
use Rattle.meaning.specs.Steps.{Step, ◌then◌, bind, each, require}
use Rattle.meaning.specs.Tree.{all_states}
use Rattle.meaning.specs.Widget.{Ctx, begin, is_active}
use Rattle.meaning.specs.declared.State.{State}
use Rattle.numbers.proofs.Laws.{eq_z_refl}
use Rattle.numbers.specs.Equal.{eq_z}
use Rattle.numbers.specs.Reference.{ref}
use Rattle.queue.specs.Queue.{removed}
use Rattle.queue.specs.Queue.{Removed}

-- ---- what passes the chart's test for 6 passes the plan machine's

slot_passes : (c : Chart) (s : ℕ) (x : ℤ) → SlotOk c s x → plan_slot_fits (length c.states) x ≡ true
unfolding plan_slot_fits
slot_passes c s (pos d) h = lt-ltb d (length c.states) h.2
slot_passes c s (negsuc n) h = eq-eqb n 0 h

slot_unused : (c : Chart) (s : ℕ) (x : ℤ) → length c.states ≤ s → SlotOk c s x → eq_z (negsuc 0) x ≡ true
slot_unused c s (pos d) l h = absurd (omega (arith, o_inside c s h.0))
slot_unused c s (negsuc n) l h = subst (λ m. eq_z (negsuc 0) (negsuc m) ≡ true) (sym h) (eq_z_refl (negsuc 0))

slots_pass : (c : Chart) (sl : List ℤ) → length c.states ≤ length sl → SlotsOk c sl → plan_slots_fit (length c.states) sl ≡ true
unfolding plan_slots_fit
slots_pass c sl l h = and_both (every (plan_slot_fits n) (take n sl)) (every (eq_z (negsuc 0)) (drop n sl))
    (at_every (plan_slot_fits n) (take n sl) (negsuc 0)
    (λ i m. let q : i < n = rw (length-take-le n sl l) at m in
    subst (λ x. plan_slot_fits n x ≡ true) (sym (get_or-take n sl i (negsuc 0) q)) (slot_passes c i (get_or sl i (negsuc 0)) (h i))))
    (at_every (eq_z (negsuc 0)) (drop n sl) (negsuc 0)
    (λ i m. subst (λ x. eq_z (negsuc 0) x ≡ true) (sym (get_or-drop n sl i (negsuc 0)))
    (slot_unused c (n + i) (get_or sl (n + i) (negsuc 0)) (omega arith) (h (n + i)))))
  where
    n : ℕ
    n = length c.states

-- a call over a plan
unfoldable pub plan_make : Plan → Call → State → Outcome
plan_make p (to_start n) u = plan_start p u n
plan_make p (to_run n) u = plan_run p u n
plan_make p (to_post e a) u = plan_post p u e a
plan_make p to_discard u = plan_discard p u

-- the start block enters the root and its defaults
abbrev pub entering : Chart → Ctx → Type 0
entering c k = run_block c.vars (pos 0) (start_block c) k
    ≡ bind (enter c (pos 0) 0 k) (each (visit c (pos 0)) (all_below c by_defaults 0))

module _ (c : Chart) (r : SoundChart c) (z : SizedChart c) where
  own_passes : (u : State) → OwnState c u → plan_own (length c.states) c.vars c.events u ≡ true
  unfolding plan_own own legal begin
  own_passes u h =
      let q = queue_fits c.events u.queue in
      let s = slots_fit c u && q in
      let v = values_fit c.vars u.vars && s in
      let m = marks_fit (length c.states) u && v in
      let e1 = and_right (legal c u) m h.is_own in
      let e2 = and_right (marks_fit (length c.states) u) v e1 in
      let e3 = and_right (values_fit c.vars u.vars) s e2 in
      let w = own_whole c r z u 0 h in
      and_both (is_active u 0) _ (and_left (is_active u 0) (every (legal_at c u) (all_states c)) (and_left (legal c u) m h.is_own))
      (and_both (marks_fit (length c.states) u) _ (and_left (marks_fit (length c.states) u) v e1)
      (and_both (values_fit c.vars u.vars) _ (and_left (values_fit c.vars u.vars) s e2)
      (and_both (plan_slots_fit (length c.states) u.slots) q
      (slots_pass c u.slots (omega (arith, z.states, h.sized.slots)) w.1.slots) (and_right (slots_fit c u) q e3))))

  -- ---- the tests 7 and 6

  tests_alike : (u : State) → Lived c u → (k : Ctx) → plan_tests (plan_of c) u k ≡ tests c u k
  unfolding plan_tests tests ◌then◌ bind require plan_of
  tests_alike u (inl e) k =
      ap (λ b. bind (require 7 b k) (require 6 (plan_own (length c.states) c.vars c.events u))) e
      ∙ sym (ap (λ b. bind (require 7 b k) (require 6 (own c u))) e)
  tests_alike u (inr h) k = ap (λ b. bind (require 7 u.started k) (require 6 b)) (own_passes u h ∙ sym h.is_own)

  -- what passes them is its own, and they change nothing
  tests_hold : (u : State) → Lived c u → (k : Ctx) → Holds (tests c u k) (λ j. (j ≡ k) × OwnState c u)
  unfolding tests ◌then◌ bind require
  tests_hold u (inl e) k = subst (λ b. Holds (bind (require 7 b k) (require 6 (own c u))) (λ j. (j ≡ k) × OwnState c u)) (sym e) tt
  tests_hold u (inr h) k = subst (λ b. Holds (bind (require 7 b k) (require 6 (own c u))) (λ j. (j ≡ k) × OwnState c u)) (sym h.started)
      (subst (λ b. Holds (require 6 b k) (λ j. (j ≡ k) × OwnState c u)) (sym h.is_own) (refl, h))

  -- so what follows them need only agree from a state of the chart's own
  tested_alike : (u : State) → Lived c u → (F G : Step Ctx) (k : Ctx) → (OwnState c u → F k ≡ G k)
      → outcome u ((plan_tests (plan_of c) u then F) k) ≡ outcome u ((tests c u then G) k)
  unfolding ◌then◌
  tested_alike u l F G k h = ap (outcome u) (ap (λ x. bind x F) (tests_alike u l k)
      ∙ bind_cong_where (λ j. (j ≡ k) × OwnState c u) (tests c u k) F G (tests_hold u l k)
      (λ j q. subst (λ i. F i ≡ G i) (sym q.0) (h q.1)))

  module _ (fires : BlocksFire c) (enters : (k : Ctx) → entering c k) where
    -- ---- start

    start_code : take (length (start_block c)) (code_of c) ≡ start_block c
    unfolding code_of
    start_code = take-append_seam (start_block c) (concat_map (block c) (head_order c))

    pub start_agrees : (u : State) (n : ℕ) → plan_start (plan_of c) u n ≡ start c u n
    unfolding plan_start start plan_start_steps start_steps plan_of fresh ◌then◌
    start_agrees u n = ap (outcome u)
        (ap (λ b. bind (run_block c.vars (pos 0) b k) (plan_settle (plan_of c))) start_code
        ∙ ap (λ x. bind x (plan_settle (plan_of c))) (enters k)
        ∙ bind_cong_where (Whole c) (bind (enter c (pos 0) 0 k) (each (visit c (pos 0)) (all_below c by_defaults 0)))
        (plan_settle (plan_of c)) (settle c)
        (holds_of (Whole c) (bind (enter c (pos 0) 0 k) (each (visit c (pos 0)) (all_below c by_defaults 0))) (start_enters c r z n))
        (settle_agrees c r z fires))
      where
        k : Ctx
        k = begin (fresh_by c.vars) n

    -- ---- run

    react_agrees : (u : State) (n : ℕ) → OwnState c u
        → plan_react (plan_of c) (removed u.queue) (begin u n) ≡ react c (removed u.queue) (begin u n)
    unfolding plan_react react ◌then◌
    react_agrees u n h = bind_cong_where (Whole c) (take_front q (begin u n)) (plan_step (plan_of c) e a then plan_settle (plan_of c))
        (step c e a then settle c)
        (holds_of (Whole c) (take_front q (begin u n)) (front_stands c r z u h n))
        (λ j w. ap (λ x. bind x (plan_settle (plan_of c))) (steps_agree c r z fires e a j w)
        ∙ bind_cong_where (Whole c) (step c e a j) (plan_settle (plan_of c)) (settle c)
        (holds_of (Whole c) (step c e a j) (step_stands c r z e a j w)) (settle_agrees c r z fires))
      where
        q : Removed
        q = removed u.queue

        e : ℕ
        e = ref q.front.event

        a : ℤ
        a = q.front.arg

    -- ---- the four calls

    pub calls_agree : (x : Call) (u : State) → Lived c u → plan_make (plan_of c) x u ≡ make c x u
    unfolding plan_make make plan_run run plan_post post plan_discard discard plan_of
    calls_agree (to_start n) u l = start_agrees u n
    calls_agree (to_run n) u l =
        tested_alike u l (plan_react (plan_of c) (removed u.queue)) (react c (removed u.queue)) (begin u n) (react_agrees u n)
    calls_agree (to_post e a) u l =
        let F : Step Ctx = require 10 (event_fits c.events e a) then enqueue e a in tested_alike u l F F (begin u 0) (λ h. refl)
    calls_agree to_discard u l =
        tested_alike u l (take_front (removed u.queue)) (take_front (removed u.queue)) (begin u 0) (λ h. refl)
