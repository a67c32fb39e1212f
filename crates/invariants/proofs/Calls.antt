-- Every call on a widget (01, "One reaction" and "Answer numbers"): what is done ends in a started state that is its chart's own,
-- 6 and 14 are never given from such a state, and the trace names only what the chart has. Assumes nothing.
use mathlib.Core.Path.{◌∙◌, ◌≡◌, ap, refl, subst, sym}
use mathlib.Core.Logic.{⊎_elim}
use Prim.Native.Nat.{ℕ}
use native.Mathlib.Omega.{arith}
use mathlib.Core.Bool.{Bool, ◌&&◌, false, true}
use mathlib.Core.List.{[]}
use mathlib.Core.Option.{none, some}
use lib.ListN.{length}
use lib.IntN.{ℤ}
use Rattle.invariants.proofs.Firing.{Standing, standing_outside}
use Rattle.invariants.proofs.Good.{enqueue_good, set_queue_good}
use Rattle.invariants.specs.Good.{Good, Traced}
use Rattle.invariants.proofs.Keeps.{Gives, enqueue_keeps, gives_bind, gives_holds}
use Rattle.invariants.proofs.Own.{OwnState, nothing_traced, own_whole, start_stands, whole_own}
use Rattle.invariants.proofs.Stepping.{Whole, settle_stands, step_stands}
use Rattle.invariants.proofs.Values.{fits_len, removed_fits}
use Rattle.laws.proofs.Lists.{and_right, same_or}
use Rattle.laws.proofs.Sound.{SoundChart}
use Rattle.laws.proofs.Value.{SizedChart}
use Rattle.meaning.specs.Calls.{Outcome, discard, fresh, outcome, post, react, as_found, run, start, start_steps, take_front, tests}
use Rattle.meaning.specs.Chart.{Chart}
use Rattle.meaning.specs.Effects.{enqueue}
use Rattle.meaning.specs.Foreign.{event_fits, legal, marks_fit, own, queue_fits, slots_fit, values_fit}
use Rattle.meaning.specs.Reaction.{settle, step}
use Rattle.meaning.specs.Steps.{Res, Step, ◌then◌, bind, ok, refuse, require}
use Rattle.meaning.specs.Widget.{Ctx, begin, change, set_queue}
use Rattle.meaning.specs.declared.State.{State}
use Rattle.numbers.specs.Reference.{ref}
use Rattle.queue.proofs.Tidy.{removed_long}
use Rattle.queue.proofs.Waiting.{removed_front, removed_none}
use Rattle.queue.specs.Queue.{removed}
use Rattle.queue.specs.declared.Queue.{Queue}
use Rattle.sizes.specs.Sizes.{QUEUE}

-- what a call from the state u gives
pub record CallFacts (c : Chart) (u : State) (o : Outcome) : Type 0 where
  -- neither "foreign" nor "a restore meets an empty slot below its owner"
  pub never_6 : o.number ≡ 6 → ⊥
  pub never_14 : o.number ≡ 14 → ⊥
  -- a call that is done ends in a started state that is the chart's own
  pub done : o.number ≡ 0 → OwnState c o.after
  -- "Any other leaves the state as it was and zeroes the lent output"
  pub rolled_back : (o.number ≡ 0 → ⊥) → (o.after ≡ u) × (o.trace ≡ [])
  -- the trace is that of entries which name what the chart has
  pub traced : Traced c o.trace

own_queue : (c : Chart) (u : State) → OwnState c u → queue_fits c.events u.queue ≡ true
unfolding own
own_queue c u h =
    let s = slots_fit c u && queue_fits c.events u.queue in
    let v = values_fit c.vars u.vars && s in
    let m = marks_fit (length c.states) u && v in
    and_right (slots_fit c u) (queue_fits c.events u.queue) (and_right (values_fit c.vars u.vars) s
    (and_right (marks_fit (length c.states) u) v (and_right (legal c u) m h.is_own)))

-- an event that fits is appended, or 9
post_stands : (c : Chart) → SoundChart c
    → SizedChart c → (u : State) → OwnState c u → (e a : ℤ) (b : Bool) → event_fits c.events e a ≡ b
    → Gives ((require 10 b then enqueue e a) (begin u 0)) (Whole c)
unfolding ◌then◌ require bind
post_stands c r z u h e a true f =
    let w = own_whole c r z u 0 h in
    gives_holds (λ j. Standing c j.state) (Good c) (enqueue e a (begin u 0))
    (enqueue_keeps (Standing c) (standing_outside c) e a (begin u 0) w.0) (enqueue_good c r z e a f (begin u 0) w.1)
post_stands c r z u h e a false f = (λ x. omega arith, λ x. omega arith, λ x. omega arith)

module _ (c : Chart) (r : SoundChart c) (z : SizedChart c) where
  outcome_facts : (u : State) (x : Res Ctx) → Gives x (Whole c) → CallFacts c u (outcome u x)
  unfolding outcome as_found
  outcome_facts u (ok k) w = record {
    never_6 = λ e. omega arith;
    never_14 = λ e. omega arith;
    done = λ e. whole_own c r z k w;
    rolled_back = λ n. absurd (n refl);
    traced = w.1.trace;
  }
  outcome_facts u (refuse n) w = record {
    never_6 = w.0;
    never_14 = w.1;
    done = λ e. absurd (w.2 e);
    rolled_back = λ e. (refl, refl);
    traced = nothing_traced c;
  }

  -- start, whatever the state held
  pub start_facts : (u : State) (n : ℕ) → CallFacts c u (start c u n)
  unfolding start
  start_facts u n = outcome_facts u (start_steps c (begin (fresh c) n)) (start_stands c r z n)

  -- ---- from a started state that is the chart's own the tests pass

  module _ (u : State) (h : OwnState c u) where
    tests_pass : (F : Step Ctx) (k : Ctx) → Gives (F k) (Whole c) → Gives ((tests c u then F) k) (Whole c)
    unfolding tests ◌then◌ require bind
    tests_pass F k w = subst (λ b. Gives (bind (bind (require 7 b k) (require 6 (own c u))) F) (Whole c)) (sym h.started)
        (subst (λ b. Gives (bind (require 6 b k) F) (Whole c)) (sym h.is_own) w)

    whole_queue : (q : Queue) → queue_fits c.events q ≡ true
        → length q.items ≡ QUEUE → (n : ℕ) → Gives (change (set_queue q) (begin u n)) (Whole c)
    unfolding change set_queue
    whole_queue q f l n =
        let w = own_whole c r z u n h in
        ((standing_outside c).queue (begin u n).state q w.0, set_queue_good c q f l (begin u n) w.1)

    pub front_stands : (n : ℕ) → Gives (take_front (removed u.queue) (begin u n)) (Whole c)
    unfolding take_front ◌then◌ require bind
    front_stands n = ⊎_elim none some (same_or u.queue.len 0)
      where
        w : Whole c (begin u n)
        w = own_whole c r z u n h

        fits : queue_fits c.events u.queue ≡ true
        fits = own_queue c u h

        none : u.queue.len ≡ 0 → Gives
            (bind (require 8 (removed u.queue).done (begin u n)) (change (set_queue (removed u.queue).queue))) (Whole c)
        none e = subst (λ x. Gives (bind (require 8 x.done (begin u n)) (change (set_queue x.queue))) (Whole c))
            (sym (removed_none u.queue e)) (λ x. omega arith, λ x. omega arith, λ x. omega arith)

        some : (u.queue.len ≡ 0 → ⊥) → Gives
            (bind (require 8 (removed u.queue).done (begin u n)) (change (set_queue (removed u.queue).queue))) (Whole c)
        some e = subst (λ b. Gives (bind (require 8 b (begin u n)) (change (set_queue (removed u.queue).queue))) (Whole c))
            (sym (ap (λ x. x.done) (removed_front u.queue (omega arith) (fits_len c.events u.queue fits))))
            (whole_queue (removed u.queue).queue (removed_fits c.events u.queue fits h.sized.items (omega arith))
            (removed_long u.queue (omega (arith, h.sized.items)) ∙ h.sized.items) n)

    pub run_facts : (n : ℕ) → CallFacts c u (run c u n)
    unfolding run react ◌then◌
    run_facts n = outcome_facts u ((tests c u then react c (removed u.queue)) (begin u n))
        (tests_pass (react c (removed u.queue)) (begin u n)
        (gives_bind (Whole c) (Whole c) (take_front (removed u.queue) (begin u n))
        (step c (ref (removed u.queue).front.event) (removed u.queue).front.arg then settle c) (front_stands n)
        (λ k w. gives_bind (Whole c) (Whole c)
        (step c (ref (removed u.queue).front.event) (removed u.queue).front.arg k) (settle c)
        (step_stands c r z (ref (removed u.queue).front.event) (removed u.queue).front.arg k w) (settle_stands c r z))))

    pub discard_facts : CallFacts c u (discard c u)
    unfolding discard
    discard_facts = outcome_facts u ((tests c u then take_front (removed u.queue)) (begin u 0))
        (tests_pass (take_front (removed u.queue)) (begin u 0) (front_stands 0))

    pub post_facts : (e a : ℤ) → CallFacts c u (post c u e a)
    unfolding post
    post_facts e a = outcome_facts u ((tests c u then require 10 (event_fits c.events e a) then enqueue e a) (begin u 0))
        (tests_pass (require 10 (event_fits c.events e a) then enqueue e a) (begin u 0) (posted (event_fits c.events e a) refl))
      where
        posted : (b : Bool) → event_fits c.events e a ≡ b → Gives ((require 10 b then enqueue e a) (begin u 0)) (Whole c)
        posted b f = post_stands c r z u h e a b f
