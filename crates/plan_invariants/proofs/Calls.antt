-- Every call over a plan that is well formed (01, "The plan" and "Answer numbers"): what a call that is done leaves, what a refused one
-- leaves, and that its trace names only what the plan has. Assumes nothing.
use mathlib.Core.Path.{◌∙◌, ◌≡◌, ap, refl, subst, sym}
use mathlib.Core.Logic.{⊎_elim}
use Prim.Native.Nat.{◌+◌, ◌-◌, ◌<◌, ◌≤◌, suc, zero, ℕ}
use native.Mathlib.Omega.{arith}
use mathlib.Core.Bool.{Bool, ◌&&◌, false, not, true}
use mathlib.Core.List.{List, [], ◌++◌, ◌∷◌, map}
use lib.ListN.{drop, length, length-append, length-map, length-replicate, replicate, take}
use lib.IntN.{negsuc, pos, ℤ}
use lib.Signed.{le_z}
use Rattle.invariants.specs.Good.{Sized}
use Rattle.invariants.proofs.Values.{empty_fits, fits_len, removed_fits}
use Rattle.laws.proofs.Lists.{and_both, and_left, and_right, every_replicate, same_or}
use Rattle.laws.specs.Facts.{Each, none_left, one_more}
use Rattle.meaning.specs.Calls.{Outcome, fresh_by, outcome, as_found, take_front}
use Rattle.meaning.specs.Effects.{enqueue}
use Rattle.meaning.specs.Foreign.{event_fits, marks_fit, queue_fits, values_fit}
use Rattle.meaning.specs.Lists.{every, padded}
use Rattle.meaning.specs.Machine.{plan_discard, plan_post, plan_react, plan_run, plan_settle, plan_start, plan_start_steps, plan_step}
use Rattle.meaning.specs.Machine.{plan_tests, run_block, plan_own, plan_slot_fits, plan_slots_fit}
use Rattle.meaning.specs.Plan.{Plan}
use Rattle.meaning.specs.Rules.{row_fits, within_row}
use Rattle.meaning.specs.Steps.{Res, Step, ◌then◌, bind, ok, refuse, require}
use Rattle.meaning.specs.Widget.{Ctx, begin, change, is_active, set_queue}
use Rattle.meaning.specs.declared.State.{State}
use Rattle.meaning.specs.declared.chart.VarRow.{VarRow}
use Rattle.numbers.specs.Equal.{eq_z}
use Rattle.numbers.specs.Reference.{ref}
use Rattle.plan_invariants.proofs.Good.{Fit, Good, enqueue_good, good_effects, queue_fit}
use Rattle.plan_invariants.proofs.Walk.{Ends, Refusal, Runs, block_runs, each_taken, ends_bind, settle_runs, step_runs, then_runs}
use Rattle.plan_invariants.proofs.Well.{Well, well_code, well_rows}
use Rattle.invariants.specs.Named.{all_named}
use Rattle.plan_invariants.specs.Names.{of_plan}
use Rattle.queue.proofs.Tidy.{removed_long}
use Rattle.queue.proofs.Waiting.{removed_front, removed_none}
use Rattle.queue.specs.Queue.{empty_queue, no_item as none_item, removed}
use Rattle.queue.specs.Queue.{Removed}
use Rattle.sizes.specs.Sizes.{QUEUE, STATES, VARIABLES}

-- what a call from the state u gives
pub record CallFacts (p : Plan) (u : State) (o : Outcome) : Type 0 where
  -- a call that is done leaves a started state that passes the machine's test but for the root's mark
  pub done : o.number ≡ 0 → Fit p o.after
  -- "Any other leaves the state as it was and zeroes the lent output"
  pub rolled_back : (o.number ≡ 0 → ⊥) → (o.after ≡ u) × (o.trace ≡ [])
  -- every entry names what the plan has
  pub named : all_named (of_plan p) o.trace ≡ true

-- ---- the test for 6, and the facts that it tests

module _ (p : Plan) (u : State) where
  pub own_fit : Sized u → u.started ≡ true → plan_own p.states p.vars p.events u ≡ true → Fit p u
  unfolding plan_own
  own_fit z s e =
      let q = queue_fits p.events u.queue in
      let l = plan_slots_fit p.states u.slots && q in
      let v = values_fit p.vars u.vars && l in
      let m = marks_fit p.states u && v in
      let e1 = and_right (is_active u 0) m e in
      let e2 = and_right (marks_fit p.states u) v e1 in
      let e3 = and_right (values_fit p.vars u.vars) l e2 in
      record {
        started = s;
        sized = z;
        marks = and_left (marks_fit p.states u) v e1;
        values = and_left (values_fit p.vars u.vars) l e2;
        slots = and_left (plan_slots_fit p.states u.slots) q e3;
        queue = and_right (plan_slots_fit p.states u.slots) q e3;
      }

  -- of a state that is fit the test for 6 asks only the root's mark
  pub fit_own : Fit p u → plan_own p.states p.vars p.events u ≡ is_active u 0
  unfolding plan_own
  fit_own f = rw (f.marks, f.values, f.slots, f.queue) (and_true (is_active u 0))
    where
      and_true : (b : Bool) → (b && true) ≡ b
      and_true true = refl
      and_true false = refl

  pub own_root : plan_own p.states p.vars p.events u ≡ true → is_active u 0 ≡ true
  unfolding plan_own
  own_root e = and_left (is_active u 0) _ e

-- ---- a fresh state is fit

every_dropped : {A : Type 0} (p : A → Bool) (n : ℕ) (xs : List A) → every p xs ≡ true → every p (drop n xs) ≡ true
unfolding every
every_dropped p zero xs e = e
every_dropped p (suc n) [] e = refl
every_dropped p (suc n) (x ∷ xs) e = every_dropped p n xs (and_right (p x) (every p xs) e)

every_taken : {A : Type 0} (p : A → Bool) (n : ℕ) (xs : List A) → every p xs ≡ true → every p (take n xs) ≡ true
unfolding every
every_taken p zero xs e = refl
every_taken p (suc n) [] e = refl
every_taken p (suc n) (x ∷ xs) e = and_both (p x) _ (and_left (p x) (every p xs) e) (every_taken p n xs (and_right (p x) (every p xs) e))

first_fit : (vs : List VarRow) (m : ℕ) → Each (λ r. row_fits r ≡ true) vs
    → values_fit vs (map (λ r. r.first) vs ++ replicate m (pos 0)) ≡ true
unfolding values_fit row_fits within_row
first_fit [] m none_left = every_replicate (eq_z (pos 0)) m (pos 0) refl
first_fit (r ∷ vs) m (one_more h hs) = and_both (le_z r.low r.first && le_z r.first r.high) _ h (first_fit vs m hs)

padded_long : (xs : List ℤ) (n : ℕ) → length xs ≤ n → length (padded n (pos 0) xs) ≡ n
unfolding padded
padded_long xs n l = length-append xs (replicate (n - length xs) (pos 0))
    ∙ ap (λ i. length xs + i) (length-replicate (n - length xs) (pos 0)) ∙ total
  where
    total : length xs + (n - length xs) ≡ n
    total = omega arith

pub fresh_fit : (p : Plan) → Well p → Fit p (fresh_by p.vars)
unfolding fresh_by marks_fit plan_slots_fit plan_slot_fits padded empty_queue
fresh_fit p w = record {
  started = refl;
  sized = record {
    active = length-replicate STATES false;
    slots = length-replicate STATES (negsuc 0);
    vars = padded_long (map (λ r. r.first) p.vars) VARIABLES (omega (arith, w.sayable.vars, length-map p.vars (λ r. r.first)));
    items = length-replicate QUEUE none_item;
  };
  marks = every_dropped not p.states (replicate STATES false) (every_replicate not STATES false refl);
  values = first_fit p.vars (VARIABLES - length (map (λ r. r.first) p.vars)) (well_rows p w);
  slots = and_both (every (plan_slot_fits p.states) (take p.states (replicate STATES (negsuc 0)))) _
      (every_taken (plan_slot_fits p.states) p.states (replicate STATES (negsuc 0))
      (every_replicate (plan_slot_fits p.states) STATES (negsuc 0) refl))
      (every_dropped (eq_z (negsuc 0)) p.states (replicate STATES (negsuc 0)) (every_replicate (eq_z (negsuc 0)) STATES (negsuc 0) refl));
  queue = empty_fits p.events;
}

pub begin_good : (p : Plan) (u : State) (n : ℕ) → Fit p u → Good p (begin u n)
unfolding begin all_named
begin_good p u n f = record { state = f; trace = refl }

-- ---- what follows the tests

module _ (p : Plan) where
  -- past the tests the state is fit
  pub tested : (u : State) → Sized u → (P : Ctx → Type 0) (F : Step Ctx) (k : Ctx) → (Fit p u → Ends Refusal (F k) P)
      → Ends Refusal ((plan_tests p u then F) k) P
  unfolding plan_tests ◌then◌ require bind
  tested u z P F k h = go u.started (plan_own p.states p.vars p.events u) refl refl
    where
      go : (a b : Bool) → u.started ≡ a → plan_own p.states p.vars p.events u ≡ b
          → Ends Refusal (bind (bind (require 7 a k) (require 6 b)) F) P
      go false b s e = λ x. omega arith
      go true false s e = λ x. omega arith
      go true true s e = h (own_fit p u z s e)

  front_good : (u : State) (n : ℕ) → Fit p u → Ends Refusal (take_front (removed u.queue) (begin u n)) (Good p)
  unfolding take_front ◌then◌ require bind change begin
  front_good u n f = ⊎_elim none some (same_or u.queue.len 0)
    where
      r : Removed
      r = removed u.queue

      Done : Removed → Type 0
      Done x = Ends Refusal (bind (require 8 x.done (begin u n)) (change (set_queue x.queue))) (Good p)

      none : u.queue.len ≡ 0 → Done r
      none e = subst Done (sym (removed_none u.queue e)) (λ x. omega arith)

      fits : 0 < u.queue.len → Fit p (set_queue r.queue u)
      fits l = queue_fit p r.queue u (removed_fits p.events u.queue f.queue f.sized.items l)
          (removed_long u.queue (omega (arith, f.sized.items)) ∙ f.sized.items) f

      some : (u.queue.len ≡ 0 → ⊥) → Done r
      some e = subst (λ b. Ends Refusal (bind (require 8 b (begin u n)) (change (set_queue r.queue))) (Good p))
          (sym (ap (λ x. x.done) (removed_front u.queue (omega arith) (fits_len p.events u.queue f.queue))))
          (begin_good p (set_queue r.queue u) n (fits (omega arith)))

  append_good : (u : State) (e a : ℤ) → Fit p u
      → Ends Refusal ((require 10 (event_fits p.events e a) then enqueue e a) (begin u 0)) (Good p)
  unfolding ◌then◌ require bind
  append_good u e a f = go (event_fits p.events e a) refl
    where
      go : (b : Bool) → event_fits p.events e a ≡ b → Ends Refusal (bind (require 10 b (begin u 0)) (enqueue e a)) (Good p)
      go true q = enqueue_good p e a q (begin u 0) (begin_good p u 0 f)
      go false q = λ x. omega arith

  module _ (w : Well p) where
    settle_good : Runs Refusal (Good p) (plan_settle p)
    settle_good = settle_runs p Refusal _ (Good p) (good_effects p w) (well_code p w)

    start_good : (n : ℕ) → Ends Refusal (plan_start_steps p (begin (fresh_by p.vars) n)) (Good p)
    unfolding plan_start_steps
    start_good n =
        let first = take p.start_length p.code in
        then_runs Refusal (Good p) (run_block p.vars (pos 0) first) (plan_settle p)
        (block_runs p Refusal _ (Good p) (good_effects p w) (pos 0) first
        (each_taken _ p.start_length p.code (well_code p w))) settle_good
        (begin (fresh_by p.vars) n) (begin_good p (fresh_by p.vars) n (fresh_fit p w))

    react_good : (u : State) (n : ℕ) → Fit p u → Ends Refusal (plan_react p (removed u.queue) (begin u n)) (Good p)
    unfolding plan_react ◌then◌
    react_good u n f =
        let r = removed u.queue in
        ends_bind Refusal (Good p) (Good p) (take_front r (begin u n)) _ (front_good u n f)
        (then_runs Refusal (Good p) (plan_step p (ref r.front.event) r.front.arg) (plan_settle p)
        (step_runs p Refusal _ (Good p) (good_effects p w) (well_code p w) (ref r.front.event) r.front.arg) settle_good)

-- ---- over a plan that is well formed

outcome_facts : (p : Plan) (u : State) (r : Res Ctx) → Ends Refusal r (Good p) → CallFacts p u (outcome u r)
unfolding outcome as_found all_named
outcome_facts p u (ok k) g = record { done = λ e. g.state; rolled_back = λ n. absurd (n refl); named = g.trace }
outcome_facts p u (refuse n) h = record { done = λ e. absurd (h e); rolled_back = λ e. (refl, refl); named = refl }

module _ (p : Plan) (w : Well p) (u : State) where
  pub plan_start_facts : (n : ℕ) → CallFacts p u (plan_start p u n)
  unfolding plan_start
  plan_start_facts n = outcome_facts p u (plan_start_steps p (begin (fresh_by p.vars) n)) (start_good p w n)

  module _ (z : Sized u) where
    tested_facts : (F : Step Ctx) (n : ℕ) → (Fit p u → Ends Refusal (F (begin u n)) (Good p))
        → CallFacts p u (outcome u ((plan_tests p u then F) (begin u n)))
    tested_facts F n h = outcome_facts p u ((plan_tests p u then F) (begin u n)) (tested p u z (Good p) F (begin u n) h)

    pub plan_run_facts : (n : ℕ) → CallFacts p u (plan_run p u n)
    unfolding plan_run
    plan_run_facts n = tested_facts (plan_react p (removed u.queue)) n (react_good p w u n)

    pub plan_post_facts : (e a : ℤ) → CallFacts p u (plan_post p u e a)
    unfolding plan_post
    plan_post_facts e a = tested_facts (require 10 (event_fits p.events e a) then enqueue e a) 0 (append_good p u e a)

    pub plan_discard_facts : CallFacts p u (plan_discard p u)
    unfolding plan_discard
    plan_discard_facts = tested_facts (take_front (removed u.queue)) 0 (front_good p u 0)
