-- Replay with the tests made once is replay by the single calls, on every input: what of the test for 6 is not made again would pass,
-- since a call that is done leaves a state that is fit, and a post leaves the root's mark. Assumes nothing.
use mathlib.Core.Path.{◌∙◌, ◌≡◌, ap, refl, sym}
use Prim.Native.Nat.{suc, ℕ}
use mathlib.Core.Bool.{Bool, false, true}
use mathlib.Core.List.{List, [], ◌∷◌}
use lib.IntN.{ℤ}
use lib.Dec.{eqb}
use borrow.Author.Tests.{eqb-true}
use Rattle.invariants.specs.Good.{Sized}
use Rattle.meaning.specs.Calls.{Outcome, outcome, as_found}
use Rattle.meaning.specs.Effects.{enqueue}
use Rattle.meaning.specs.Foreign.{event_fits}
use Rattle.meaning.specs.Machine.{machine_post, machine_run, plan_post, plan_react, plan_run, plan_tests, plan_own}
use Rattle.meaning.specs.Plan.{Plan}
use Rattle.meaning.specs.Steps.{Step, ◌then◌, bind, ok, refuse, require}
use Rattle.meaning.specs.WellFormed.{plan_by, well_formed}
use Rattle.meaning.specs.Widget.{Ctx, begin, is_active}
use Rattle.meaning.specs.declared.State.{State}
use Rattle.plan_invariants.proofs.Calls.{fit_own, own_fit, plan_post_facts, plan_run_facts}
use Rattle.plan_invariants.proofs.Good.{Fit}
use Rattle.plan_invariants.proofs.Root.{root_after_post}
use Rattle.plan_invariants.proofs.Well.{Well, well}
use Rattle.plan_invariants.specs.Replay.{post_on, replay_examined, replay_once, run_on}
use Rattle.promises.specs.Replay.{Course, course, or_stop, replay, replay_by}
use Rattle.queue.specs.Queue.{removed}
use Rattle.queue.specs.declared.Item.{Item}

-- ---- the fold: equal ways on where a call is done

or_stop_same : (d : ℕ) (t : List ℤ) (o : Outcome) (f g : State → Course) → (o.number ≡ 0 → f o.after ≡ g o.after)
    → or_stop d t o f ≡ or_stop d t o g
unfolding or_stop
or_stop_same d t o f g h = go (eqb o.number 0) refl
  where
    go : (b : Bool) → eqb o.number 0 ≡ b
        → ◌≡◌ {A = Course} (elim b [ true ↦ f o.after | false ↦ course d o.number o.after t ])
        (elim b [ true ↦ g o.after | false ↦ course d o.number o.after t ])
    go true k = h (eqb-true o.number 0 k)
    go false k = refl

-- ---- the tests of a state that is fit

module _ (p : Plan) (u : State) (f : Fit p u) where
  -- come down to the root's mark
  tests_root : (F : Step Ctx) (k : Ctx) → (plan_tests p u then F) k ≡ (require 6 (is_active u 0) then F) k
  unfolding plan_tests ◌then◌ require bind
  tests_root F k =
      ap (λ b. bind (bind (require 7 b k) (require 6 (plan_own p.states p.vars p.events u))) F) f.started
      ∙ ap (λ b. bind (require 6 b k) F) (fit_own p u f)

  pub post_same : (x : Item) → plan_post p u x.event x.arg ≡ post_on p x u
  unfolding plan_post post_on
  post_same x = ap (outcome u) (tests_root (require 10 (event_fits p.events x.event x.arg) then enqueue x.event x.arg)
      (begin u 0))

  pub run_same : is_active u 0 ≡ true → (n : ℕ) → plan_run p u n ≡ run_on p n u
  unfolding plan_run run_on ◌then◌ require bind
  run_same a n = ap (outcome u) (tests_root (plan_react p (removed u.queue)) (begin u n)
      ∙ ap (λ b. bind (require 6 b (begin u n)) (plan_react p (removed u.queue))) a)

-- ---- replay from a state that is fit

abbrev calls_post : Plan → Item → State → Outcome
calls_post p x v = plan_post p v x.event x.arg

abbrev calls_run : Plan → ℕ → State → Outcome
calls_run p n v = plan_run p v n

-- a run, and then the events that are left
abbrev run_and : (Item → State → Outcome) → (State → Outcome) → ℕ → List Item → Outcome → Course
run_and post run d xs o = or_stop d o.trace o (λ z. replay_by post run (suc d) z o.trace xs)

module _ (p : Plan) (w : Well p) (n : ℕ) where
  pub replay_same : (xs : List Item) (d : ℕ) (u : State) (t : List ℤ) → Fit p u
      → replay_by (calls_post p) (calls_run p n) d u t xs ≡ replay_by (post_on p) (run_on p n) d u t xs
  unfolding replay_by
  replay_same [] d u t f = refl
  replay_same (x ∷ xs) d u t f =
      let by_calls = run_and (calls_post p) (calls_run p n) d xs in
      let on = run_and (post_on p) (run_on p n) d xs in
      or_stop_same d t (calls_post p x u) (λ v. by_calls (calls_run p n v)) (λ v. on (run_on p n v))
      (λ e. let v = (calls_post p x u).after in
      let o = calls_run p n v in
      let g = (plan_post_facts p w u f.sized x.event x.arg).done e in
      or_stop_same d o.trace o (λ z. replay_by (calls_post p) (calls_run p n) (suc d) z o.trace xs)
      (λ z. replay_by (post_on p) (run_on p n) (suc d) z o.trace xs)
      (λ r. replay_same xs (suc d) o.after o.trace ((plan_run_facts p w v g.sized n).done r))
      ∙ ap on (run_same p v g (root_after_post p u x.event x.arg e) n))
      ∙ ap (λ o. or_stop d t o (λ v. on (run_on p n v))) (post_same p u f x)

-- ---- from any state: the tests for 7 and 6 are those of the first post

module _ (p : Plan) (u : State) where
  -- where the tests refuse, whatever follows them
  tests_refuse : (F : Step Ctx) (k : Ctx) (m : ℕ) → plan_tests p u k ≡ refuse m → (plan_tests p u then F) k ≡ refuse m
  unfolding ◌then◌ bind
  tests_refuse F k m e = ap (λ r. bind r F) e

  post_refused : (m : ℕ) → plan_tests p u (begin u 0) ≡ refuse m → (x : Item) → calls_post p x u ≡ as_found m 0 u
  unfolding plan_post outcome
  post_refused m e x = ap (outcome u) (tests_refuse
      (require 10 (event_fits p.events x.event x.arg) then enqueue x.event x.arg) (begin u 0) m e)

  module _ (w : Well p) (n : ℕ) (x : Item) (xs : List Item) where
    abbrev by_calls : Course
    by_calls = replay_by (calls_post p) (calls_run p n) 0 u [] (x ∷ xs)

    refused_same : (m : ℕ) → eqb m 0 ≡ false → plan_tests p u (begin u 0) ≡ refuse m → by_calls ≡ replay_examined p u (x ∷ xs) n
    unfolding replay_examined replay_by or_stop outcome as_found
    refused_same m z e =
        ap (λ o. or_stop 0 [] o (λ v. run_and (calls_post p) (calls_run p n) 0 xs (calls_run p n v))) (post_refused m e x)
        ∙ stops (λ v. run_and (calls_post p) (calls_run p n) 0 xs (calls_run p n v))
        ∙ sym (ap (λ r. or_stop 0 [] (outcome u r) (λ v. replay_by (post_on p) (run_on p n) 0 v [] (x ∷ xs))) e
        ∙ stops (λ v. replay_by (post_on p) (run_on p n) 0 v [] (x ∷ xs)))
      where
        stops : (f : State → Course) → or_stop 0 [] (as_found m 0 u) f ≡ course 0 m u []
        stops f = ap (λ b. elim b [ true ↦ f u | false ↦ course 0 m u [] ]) z

    passed_same : Fit p u → plan_tests p u (begin u 0) ≡ ok (begin u 0) → by_calls ≡ replay_examined p u (x ∷ xs) n
    unfolding replay_examined or_stop outcome begin
    passed_same f e = replay_same p w n (x ∷ xs) 0 u [] f
        ∙ sym (ap (λ r. or_stop 0 [] (outcome u r) (λ v. replay_by (post_on p) (run_on p n) 0 v [] (x ∷ xs))) e)

    pub replay_examined_same : Sized u → by_calls ≡ replay_examined p u (x ∷ xs) n
    unfolding plan_tests ◌then◌ require bind
    replay_examined_same z = go u.started (plan_own p.states p.vars p.events u) refl refl
      where
        tests_are : (a b : Bool) → u.started ≡ a → plan_own p.states p.vars p.events u ≡ b
            → plan_tests p u (begin u 0) ≡ (require 7 a then require 6 b) (begin u 0)
        tests_are a b s e = ap (λ c. (require 7 c then require 6 (plan_own p.states p.vars p.events u)) (begin u 0)) s
            ∙ ap (λ c. (require 7 a then require 6 c) (begin u 0)) e

        go : (a b : Bool) → u.started ≡ a → plan_own p.states p.vars p.events u ≡ b → by_calls ≡ replay_examined p u (x ∷ xs) n
        go false b s e = refused_same 7 refl (tests_are false b s e)
        go true false s e = refused_same 6 refl (tests_are true false s e)
        go true true s e = passed_same (own_fit p u z s e) (tests_are true true s e)

-- ---- over any numbers

-- replay with the plan examined once, and 7 and the whole test for 6 made once, is the fold of the single calls
pub replay_tests_once : (ns : List ℤ) (u : State) → Sized u → (xs : List Item) (n : ℕ) → replay ns u xs n ≡ replay_once ns u xs n
unfolding replay replay_once machine_post machine_run replay_by or_stop as_found
replay_tests_once ns u z [] n = refl
replay_tests_once ns u z (x ∷ xs) n = go (well_formed ns) refl
  where
    by : Bool → Course
    by b = replay_by (λ y v. elim b [ true ↦ plan_post (plan_by ns) v y.event y.arg | false ↦ as_found 5 0 v ])
        (λ v. elim b [ true ↦ plan_run (plan_by ns) v n | false ↦ as_found 5 0 v ]) 0 u [] (x ∷ xs)

    once : Bool → Course
    once b = elim b [ true ↦ replay_examined (plan_by ns) u (x ∷ xs) n | false ↦ course 0 5 u [] ]

    cases : (b : Bool) → well_formed ns ≡ b → by b ≡ once b
    cases true e = replay_examined_same (plan_by ns) u (well ns e) n x xs z
    cases false e = refl

    go : (b : Bool) → well_formed ns ≡ b → by (well_formed ns) ≡ once (well_formed ns)
    go b e = ap by e ∙ cases b e ∙ sym (ap once e)
