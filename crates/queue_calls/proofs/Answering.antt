-- Post and discard over a chart that passes the rules, test by test (01, "Answer numbers", the order). Assumes nothing.
use mathlib.Core.Path.{◌≡◌, sym, ap, ◌∙◌}
use mathlib.Core.Bool.{Bool, true, false}
use Prim.Native.Nat.{ℕ}
use lib.IntN.{ℤ}
use Rattle.queue.specs.declared.Queue.{Queue}
use Rattle.queue.specs.Queue.{Queued}
use Rattle.queue.specs.Queue.{Removed}
use Rattle.queue.specs.Queue.{appended, removed}
use Rattle.meaning.specs.declared.State.{State}
use Rattle.meaning.specs.Chart.{Chart}
use Rattle.meaning.specs.Steps.{Res, refuse, Step, bind, ◌then◌, require, look}
use Rattle.meaning.specs.Widget.{Ctx, set_queue, change, begin}
use Rattle.meaning.specs.Effects.{take_queue, enqueue}
use Rattle.meaning.specs.Foreign.{event_fits, own}
use Rattle.meaning.specs.Calls.{as_found, outcome, called, tests, take_front, post, discard}
use Rattle.queue_calls.specs.Parts.{quiet}

-- ---- a test that is met, or not

module _ (n : ℕ) {b : Bool} (E : Step Ctx) (k : Ctx) where
  require_no : b ≡ false → (require n b then E) k ≡ refuse n
  unfolding require ◌then◌ bind
  require_no e = rw e

  require_on : b ≡ true → (require n b then E) k ≡ E k
  unfolding require ◌then◌ bind
  require_on e = rw e

-- ---- "then 7, 6"

module _ {s : Bool} (o : Bool) (E : Step Ctx) (k : Ctx) where
  gate_7 : s ≡ false → ((require 7 s then require 6 o) then E) k ≡ refuse 7
  unfolding require ◌then◌ bind
  gate_7 e = rw e

  gate_6 : s ≡ true → o ≡ false → ((require 7 s then require 6 o) then E) k ≡ refuse 6
  unfolding require ◌then◌ bind
  gate_6 e f = rw (e, f)

  gate_on : s ≡ true → o ≡ true → ((require 7 s then require 6 o) then E) k ≡ E k
  unfolding require ◌then◌ bind
  gate_on e f = rw (e, f)

module _ (c : Chart) (u : State) (E : Step Ctx) (k : Ctx) where
  pub tests_7 : u.started ≡ false → (tests c u then E) k ≡ refuse 7
  unfolding tests
  tests_7 e = gate_7 (own c u) E k e

  pub tests_6 : u.started ≡ true → own c u ≡ false → (tests c u then E) k ≡ refuse 6
  unfolding tests
  tests_6 e f = gate_6 (own c u) E k e f

  pub tests_on : u.started ≡ true → own c u ≡ true → (tests c u then E) k ≡ E k
  unfolding tests
  tests_on e f = gate_on (own c u) E k e f

-- ---- the outcome

module _ (u : State) {r : Res Ctx} where
  pub refusing : {n : ℕ} → r ≡ refuse n → called (as_found n 0 u) ≡ called (outcome u r)
  unfolding outcome
  refusing e = ap (λ x. called (outcome u x)) (sym e)

  pub ending : (q : Queue) → r ≡ change (set_queue q) (begin u 0) → called (quiet (set_queue q u)) ≡ called (outcome u r)
  unfolding outcome change begin quiet
  ending q e = ap (λ x. called (outcome u x)) (sym e)

-- ---- post and discard

module _ (c : Chart) (u : State) where
  module _ (e a : ℤ) where
    rest : Step Ctx
    rest = require 10 (event_fits c.events e a) then enqueue e a

    pub post_7 : u.started ≡ false → called (as_found 7 0 u) ≡ called (post c u e a)
    unfolding post rest
    post_7 s = refusing u (tests_7 c u rest (begin u 0) s)

    module _ (s : u.started ≡ true) where
      pub post_6 : own c u ≡ false → called (as_found 6 0 u) ≡ called (post c u e a)
      unfolding post rest
      post_6 o = refusing u (tests_6 c u rest (begin u 0) s o)

      module _ (o : own c u ≡ true) {n : ℕ} (k : n ≡ c.events) where
        pub post_10 : event_fits n e a ≡ false → called (as_found 10 0 u) ≡ called (post c u e a)
        unfolding post rest
        post_10 f = refusing u
            (tests_on c u rest (begin u 0) s o ∙ require_no 10 (enqueue e a) (begin u 0) (ap (λ x. event_fits x e a) (sym k) ∙ f))

        module _ (f : event_fits n e a ≡ true) {q : Queued} (g : q ≡ appended u.queue e a) where
          to_queue : (tests c u then rest) (begin u 0) ≡ take_queue q (begin u 0)
          unfolding rest enqueue look begin
          to_queue =
              tests_on c u rest (begin u 0) s o
              ∙ require_on 10 (enqueue e a) (begin u 0) (ap (λ x. event_fits x e a) (sym k) ∙ f)
              ∙ ap (λ x. take_queue x (begin u 0)) (sym g)

          pub post_9 : q.done ≡ false → called (as_found 9 0 u) ≡ called (post c u e a)
          unfolding post rest take_queue
          post_9 d = refusing u (to_queue ∙ require_no 9 (change (set_queue q.queue)) (begin u 0) d)

          pub post_0 : q.done ≡ true → called (quiet (set_queue q.queue u)) ≡ called (post c u e a)
          unfolding post rest take_queue
          post_0 d = ending u q.queue (to_queue ∙ require_on 9 (change (set_queue q.queue)) (begin u 0) d)

  pub discard_7 : u.started ≡ false → called (as_found 7 0 u) ≡ called (discard c u)
  unfolding discard
  discard_7 s = refusing u (tests_7 c u (take_front (removed u.queue)) (begin u 0) s)

  module _ (s : u.started ≡ true) where
    pub discard_6 : own c u ≡ false → called (as_found 6 0 u) ≡ called (discard c u)
    unfolding discard
    discard_6 o = refusing u (tests_6 c u (take_front (removed u.queue)) (begin u 0) s o)

    module _ (o : own c u ≡ true) {r : Removed} (g : r ≡ removed u.queue) where
      to_front : (tests c u then take_front (removed u.queue)) (begin u 0) ≡ take_front r (begin u 0)
      to_front = tests_on c u (take_front (removed u.queue)) (begin u 0) s o ∙ ap (λ x. take_front x (begin u 0)) (sym g)

      pub discard_8 : r.done ≡ false → called (as_found 8 0 u) ≡ called (discard c u)
      unfolding discard take_front
      discard_8 d = refusing u (to_front ∙ require_no 8 (change (set_queue r.queue)) (begin u 0) d)

      pub discard_0 : r.done ≡ true → called (quiet (set_queue r.queue u)) ≡ called (discard c u)
      unfolding discard take_front
      discard_0 d = ending u r.queue (to_front ∙ require_on 8 (change (set_queue r.queue)) (begin u 0) d)
