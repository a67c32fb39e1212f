-- What a replay gives: its number, from any state whatsoever (never 8, since a run follows a post that is done, and never 14); how many
-- events are done; and that its trace names only what the plan has. Assumes nothing.
use mathlib.Core.Path.{◌≡◌, ap, refl, subst, sym}
use mathlib.Core.Logic.{⊎_elim}
use Prim.Native.Nat.{◌+◌, ◌<◌, ◌≤◌, suc, ℕ}
use native.Mathlib.Omega.{arith}
use mathlib.Core.Bool.{Bool, false, true}
use mathlib.Core.List.{List, [], ◌∷◌}
use lib.ListN.{length}
use lib.IntN.{ℤ}
use lib.Dec.{eqb}
use borrow.Author.Tests.{eqb-false, eqb-true}
use Rattle.agreement.specs.PlanCalls.{machine_make}
use Rattle.invariants.specs.CallLists.{to_post, to_run}
use Rattle.invariants.specs.Good.{Sized}
use Rattle.laws.proofs.Lists.{le_or_lt, or_right}
use Rattle.meaning.specs.Calls.{Outcome, outcome, as_found, take_front}
use Rattle.meaning.specs.Effects.{enqueue, take_queue}
use Rattle.meaning.specs.Foreign.{event_fits}
use Rattle.meaning.specs.Lists.{has}
use Rattle.meaning.specs.Machine.{machine_post, machine_run, plan_post, plan_react, plan_run, plan_tests, plan_own}
use Rattle.meaning.specs.Plan.{Plan}
use Rattle.meaning.specs.Steps.{Res, ◌then◌, bind, look, ok, refuse, require}
use Rattle.meaning.specs.WellFormed.{plan_by, well_formed}
use Rattle.meaning.specs.Widget.{Ctx, begin, change, set_queue}
use Rattle.meaning.specs.declared.State.{State}
use Rattle.plan_invariants.proofs.Answering.{AnyInstr, OneOf, Whatever, answer_of, each_any, marking, tested_answer}
use Rattle.plan_invariants.proofs.AnyNumbers.{machine_facts, stays_sized}
use Rattle.plan_invariants.proofs.Marks.{On, append_marked, react_marked}
use Rattle.plan_invariants.proofs.Walk.{Ends, Refusal, Runs}
use Rattle.plan_invariants.specs.Answers.{REPLAY_ANSWERS}
use Rattle.invariants.specs.Named.{Names, all_named}
use Rattle.plan_invariants.specs.Names.{of_plan}
use Rattle.promises.specs.Replay.{Course, course, or_stop, replay, replay_by}
use Rattle.queue.proofs.Waiting.{appended_full, appended_room, removed_front}
use Rattle.queue.specs.Queue.{appended, removed}
use Rattle.queue.specs.declared.Item.{Item}
use Rattle.queue.specs.Queue.{Queued}
use Rattle.queue.specs.Queue.{Removed}
use Rattle.sizes.specs.Sizes.{QUEUE}

-- ---- after a post that is done something waits

-- the front can be taken
abbrev Waits : State → Type 0
Waits u = (removed u.queue).done ≡ true

enqueue_waits : (e a : ℤ) (k : Ctx) → Ends Refusal (enqueue e a k) (λ j. Waits j.state)
unfolding enqueue look take_queue ◌then◌ require bind change set_queue
enqueue_waits e a k = ⊎_elim over room (le_or_lt QUEUE k.state.queue.len)
  where
    Done : Queued → Type 0
    Done q = Ends Refusal (bind (require 9 q.done k) (change (set_queue q.queue))) (λ j. Waits j.state)

    over : QUEUE ≤ k.state.queue.len → Done (appended k.state.queue e a)
    over l = subst Done (sym (appended_full k.state.queue e a l)) (λ z. omega arith)

    room : k.state.queue.len < QUEUE → Done (appended k.state.queue e a)
    room l = subst Done (sym (appended_room k.state.queue e a l)) (ap (λ r. r.done) (removed_front _ (omega arith) (omega arith)))

waits_of : (u : State) (r : Res Ctx) → Ends Refusal r (λ j. Waits j.state) → (outcome u r).number ≡ 0 → Waits (outcome u r).after
unfolding outcome as_found
waits_of u (ok k) h q = h
waits_of u (refuse n) h q = absurd (h q)

post_waits : (p : Plan) (u : State) (e a : ℤ) → (plan_post p u e a).number ≡ 0 → Waits (plan_post p u e a).after
unfolding plan_post plan_tests ◌then◌ require bind
post_waits p u e a = waits_of u ((plan_tests p u then require 10 (event_fits p.events e a) then enqueue e a) (begin u 0))
    (go u.started (plan_own p.states p.vars p.events u) (event_fits p.events e a))
  where
    go : (s b f : Bool)
        → Ends Refusal (bind (bind (require 7 s (begin u 0)) (require 6 b)) (λ k. bind (require 10 f k) (enqueue e a)))
        (λ j. Waits j.state)
    go false b f = λ z. omega arith
    go true false f = λ z. omega arith
    go true true false = λ z. omega arith
    go true true true = enqueue_waits e a (begin u 0)

-- ---- the numbers of a post, and of a run that finds something waiting

module _ (p : Plan) (u : State) where
  post_number : (e a : ℤ) → has (plan_post p u e a).number REPLAY_ANSWERS ≡ true
  unfolding plan_post has
  post_number e a =
      let F = require 10 (event_fits p.events e a) then enqueue e a in
      answer_of REPLAY_ANSWERS u ((plan_tests p u then F) (begin u 0)) refl
      (tested_answer p REPLAY_ANSWERS u F (begin u 0) refl refl
      (append_marked (OneOf REPLAY_ANSWERS) Whatever refl refl (event_fits p.events e a) e a))

  front_taken : (r : Removed) → r.done ≡ true → Runs (OneOf REPLAY_ANSWERS) (On Whatever) (take_front r)
  unfolding take_front ◌then◌ require bind change
  front_taken r h k t = subst (λ b. Ends (OneOf REPLAY_ANSWERS) (bind (require 8 b k) (change (set_queue r.queue))) (On Whatever))
      (sym h) tt

  run_number : Waits u → (n : ℕ) → has (plan_run p u n).number REPLAY_ANSWERS ≡ true
  unfolding plan_run has
  run_number h n =
      let r = removed u.queue in
      answer_of REPLAY_ANSWERS u ((plan_tests p u then plan_react p r) (begin u n)) refl
      (tested_answer p REPLAY_ANSWERS u (plan_react p r) (begin u n) refl refl
      (react_marked p (OneOf REPLAY_ANSWERS) AnyInstr Whatever (marking REPLAY_ANSWERS refl refl refl) (each_any p.code) r
      (front_taken r h)))

-- ---- the fold, by its four cases

-- Q of the events that are left, of what is done and at hand before them, and of what the replay gives
module _ (post : Item → State → Outcome) (run : State → Outcome) (Q : List Item → ℕ → State → List ℤ → Course → Type 0) where
  abbrev ran_on : Item → State → Outcome
  ran_on x u = run (post x u).after

  pub record Cases : Type 0 where
    pub no_more : (d : ℕ) (u : State) (t : List ℤ) → Q [] d u t (course d 0 u t)
    pub post_stops : (x : Item) (xs : List Item) (d : ℕ) (u : State) (t : List ℤ) → ((post x u).number ≡ 0 → ⊥)
        → Q (x ∷ xs) d u t (course d (post x u).number (post x u).after t)
    pub run_stops : (x : Item) (xs : List Item) (d : ℕ) (u : State) (t : List ℤ) → (post x u).number ≡ 0 → ((ran_on x u).number ≡ 0 → ⊥)
        → Q (x ∷ xs) d u t (course d (ran_on x u).number (ran_on x u).after (ran_on x u).trace)
    pub goes_on : (x : Item) (xs : List Item) (d : ℕ) (u : State) (t : List ℤ) (r : Course) → (post x u).number ≡ 0
        → (ran_on x u).number ≡ 0 → Q xs (suc d) (ran_on x u).after (ran_on x u).trace r → Q (x ∷ xs) d u t r

  pub replay_cases : Cases → (xs : List Item) (d : ℕ) (u : State) (t : List ℤ) → Q xs d u t (replay_by post run d u t xs)
  unfolding replay_by or_stop
  replay_cases c [] d u t = c.no_more d u t
  replay_cases c (x ∷ xs) d u t = posts (eqb (post x u).number 0) refl (replay_cases c xs (suc d) (ran_on x u).after (ran_on x u).trace)
    where
      rest : Course
      rest = replay_by post run (suc d) (ran_on x u).after (ran_on x u).trace xs

      stop : Course
      stop = course d (ran_on x u).number (ran_on x u).after (ran_on x u).trace

      runs : (post x u).number ≡ 0 → (b : Bool) → eqb (ran_on x u).number 0 ≡ b → Q xs (suc d) (ran_on x u).after (ran_on x u).trace rest
          → Q (x ∷ xs) d u t (elim b [ true ↦ rest | false ↦ stop ])
      runs e true f h = c.goes_on x xs d u t rest e (eqb-true (ran_on x u).number 0 f) h
      runs e false f h = c.run_stops x xs d u t e (eqb-false (ran_on x u).number 0 f)

      posts : (b : Bool) → eqb (post x u).number 0 ≡ b → Q xs (suc d) (ran_on x u).after (ran_on x u).trace rest
          → Q (x ∷ xs) d u t (elim b [
            | true ↦ or_stop d (ran_on x u).trace (ran_on x u) (λ y. replay_by post run (suc d) y (ran_on x u).trace xs)
            | false ↦ course d (post x u).number (post x u).after t
          ])
      posts true e h = runs (eqb-true (post x u).number 0 e) (eqb (ran_on x u).number 0) refl h
      posts false e h = c.post_stops x xs d u t (eqb-false (post x u).number 0 e)

-- how many events are done: all where none was refused, else fewer, and the number is that of a refusal
pub replay_count : (post : Item → State → Outcome) (run : State → Outcome) (xs : List Item) (d : ℕ) (u : State) (t : List ℤ)
    → let r = replay_by post run d u t xs in (r.number ≡ 0 → r.done ≡ d + length xs) × ((r.number ≡ 0 → ⊥) → r.done < d + length xs)
replay_count post run xs d u t = replay_cases post run
    (λ ys e v s r. (r.number ≡ 0 → r.done ≡ e + length ys) × ((r.number ≡ 0 → ⊥) → r.done < e + length ys))
    (record {
      no_more = λ e v s. (λ q. omega arith, λ q. absurd (q refl));
      post_stops = λ x ys e v s n. (λ q. absurd (n q), λ q. omega arith);
      run_stops = λ x ys e v s p n. (λ q. absurd (n q), λ q. omega arith);
      goes_on = λ x ys e v s r p n h. (λ q. omega (arith, h.0 q), λ q. omega (arith, h.1 q));
    }) xs d u t

-- ---- replay over any numbers, from any state whatsoever

with_5 : (m : ℕ) → has m REPLAY_ANSWERS ≡ true → has m (5 ∷ REPLAY_ANSWERS) ≡ true
unfolding has
with_5 m h = or_right (eqb m 5) _ h

five : (v : State) → has (as_found 5 0 v).number (5 ∷ REPLAY_ANSWERS) ≡ true
unfolding has as_found
five v = refl

zero_in : has 0 (5 ∷ REPLAY_ANSWERS) ≡ true
unfolding has
zero_in = refl

-- never 8 and never 14
pub replay_number : (ns : List ℤ) (u : State) (xs : List Item) (n : ℕ) → has (replay ns u xs n).number (5 ∷ REPLAY_ANSWERS) ≡ true
unfolding replay machine_post machine_run as_found
replay_number ns u xs n = go (well_formed ns)
  where
    calls_post : Bool → Item → State → Outcome
    calls_post b x v = elim b [ true ↦ plan_post (plan_by ns) v x.event x.arg | false ↦ as_found 5 0 v ]

    calls_run : Bool → State → Outcome
    calls_run b v = elim b [ true ↦ plan_run (plan_by ns) v n | false ↦ as_found 5 0 v ]

    post_in : (b : Bool) (x : Item) (v : State) → has (calls_post b x v).number (5 ∷ REPLAY_ANSWERS) ≡ true
    post_in true x v = with_5 _ (post_number (plan_by ns) v x.event x.arg)
    post_in false x v = five v

    run_in : (b : Bool) (x : Item) (v : State) → (calls_post b x v).number ≡ 0
        → has (calls_run b (calls_post b x v).after).number (5 ∷ REPLAY_ANSWERS) ≡ true
    run_in true x v e = with_5 _ (run_number (plan_by ns) (plan_post (plan_by ns) v x.event x.arg).after
        (post_waits (plan_by ns) v x.event x.arg e) n)
    run_in false x v e = five v

    go : (b : Bool) → has (replay_by (calls_post b) (calls_run b) 0 u [] xs).number (5 ∷ REPLAY_ANSWERS) ≡ true
    go b = replay_cases (calls_post b) (calls_run b) (λ ys d v s r. has r.number (5 ∷ REPLAY_ANSWERS) ≡ true)
        (record {
          no_more = λ d v s. zero_in;
          post_stops = λ x ys d v s e. post_in b x v;
          run_stops = λ x ys d v s e f. run_in b x v e;
          goes_on = λ x ys d v s r e f h. h;
        }) xs 0 u []

-- ---- from any lent state: the trace names only what the plan has, and the sizes stay

pub replay_named : (ns : List ℤ) (u : State) → Sized u → (xs : List Item) (n : ℕ)
    → (all_named (of_plan (plan_by ns)) (replay ns u xs n).trace ≡ true) × Sized (replay ns u xs n).after
unfolding replay machine_make all_named
replay_named ns u z xs n = replay_cases post run
    (λ ys d v s r. Sized v → all_named w s ≡ true → (all_named w r.trace ≡ true) × Sized r.after)
    (record {
      no_more = λ d v s y h. (h, y);
      post_stops = λ x ys d v s e y h. (h, sized x v y);
      run_stops = λ x ys d v s e f y h. (named x v y, again x v y);
      goes_on = λ x ys d v s r e f h y g. h (again x v y) (named x v y);
    }) xs 0 u [] z refl
  where
    w : Names
    w = of_plan (plan_by ns)

    post : Item → State → Outcome
    post x v = machine_post ns v x.event x.arg

    run : State → Outcome
    run v = machine_run ns v n

    sized : (x : Item) (v : State) → Sized v → Sized (post x v).after
    sized x v y = stays_sized ns (to_post x.event x.arg) v y

    again : (x : Item) (v : State) → Sized v → Sized (run (post x v).after).after
    again x v y = stays_sized ns (to_run n) (post x v).after (sized x v y)

    named : (x : Item) (v : State) → Sized v → all_named w (run (post x v).after).trace ≡ true
    named x v y = (machine_facts ns (to_run n) (post x v).after (sized x v y)).named
