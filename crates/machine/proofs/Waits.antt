-- Post and discard over a plan, test by test (01, "Answer numbers", the order). Assumes nothing.
use mathlib.Core.Path.{◌≡◌, sym, ap, ◌∙◌}
use mathlib.Core.Bool.{true, false}
use Prim.Native.Nat.{ℕ}
use lib.IntN.{ℤ}
use Rattle.queue.specs.Queue.{Queued}
use Rattle.queue.specs.Queue.{Removed}
use Rattle.queue.specs.Queue.{appended, removed}
use Rattle.meaning.specs.declared.State.{State}
use Rattle.meaning.specs.Plan.{Plan}
use Rattle.meaning.specs.Steps.{Step, ◌then◌, require, look}
use Rattle.meaning.specs.Widget.{Ctx, set_queue, change, begin}
use Rattle.meaning.specs.Effects.{take_queue, enqueue}
use Rattle.meaning.specs.Foreign.{event_fits}
use Rattle.meaning.specs.Calls.{as_found, called, take_front}
use Rattle.meaning.specs.Machine.{plan_tests, plan_post, plan_discard}
use Rattle.queue_calls.specs.Parts.{quiet}
use Rattle.queue_calls.proofs.Answering.{refusing, ending}
use Rattle.machine.proofs.Gates.{owns, tests_7, tests_6, tests_on, require_no, require_on}

module _ (p : Plan) (u : State) where
  module _ (e a : ℤ) where
    rest : Step Ctx
    rest = require 10 (event_fits p.events e a) then enqueue e a

    pub post_7 : u.started ≡ false → called (as_found 7 0 u) ≡ called (plan_post p u e a)
    unfolding plan_post rest
    post_7 s = refusing u (tests_7 p u rest (begin u 0) s)

    module _ (s : u.started ≡ true) where
      pub post_6 : owns p u ≡ false → called (as_found 6 0 u) ≡ called (plan_post p u e a)
      unfolding plan_post rest
      post_6 o = refusing u (tests_6 p u rest (begin u 0) s o)

      module _ (o : owns p u ≡ true) {n : ℕ} (k : n ≡ p.events) where
        pub post_10 : event_fits n e a ≡ false → called (as_found 10 0 u) ≡ called (plan_post p u e a)
        unfolding plan_post rest
        post_10 f = refusing u (tests_on p u rest (begin u 0) s o
            ∙ require_no 10 (enqueue e a) (begin u 0) (ap (λ x. event_fits x e a) (sym k) ∙ f))

        module _ (f : event_fits n e a ≡ true) {q : Queued} (g : q ≡ appended u.queue e a) where
          to_queue : (plan_tests p u then rest) (begin u 0) ≡ take_queue q (begin u 0)
          unfolding rest enqueue look begin
          to_queue =
              tests_on p u rest (begin u 0) s o
              ∙ require_on 10 (enqueue e a) (begin u 0) (ap (λ x. event_fits x e a) (sym k) ∙ f)
              ∙ ap (λ x. take_queue x (begin u 0)) (sym g)

          pub post_9 : q.done ≡ false → called (as_found 9 0 u) ≡ called (plan_post p u e a)
          unfolding plan_post rest take_queue
          post_9 d = refusing u (to_queue ∙ require_no 9 (change (set_queue q.queue)) (begin u 0) d)

          pub post_0 : q.done ≡ true → called (quiet (set_queue q.queue u)) ≡ called (plan_post p u e a)
          unfolding plan_post rest take_queue
          post_0 d = ending u q.queue (to_queue ∙ require_on 9 (change (set_queue q.queue)) (begin u 0) d)

  pub discard_7 : u.started ≡ false → called (as_found 7 0 u) ≡ called (plan_discard p u)
  unfolding plan_discard
  discard_7 s = refusing u (tests_7 p u (take_front (removed u.queue)) (begin u 0) s)

  module _ (s : u.started ≡ true) where
    pub discard_6 : owns p u ≡ false → called (as_found 6 0 u) ≡ called (plan_discard p u)
    unfolding plan_discard
    discard_6 o = refusing u (tests_6 p u (take_front (removed u.queue)) (begin u 0) s o)

    module _ (o : owns p u ≡ true) {r : Removed} (g : r ≡ removed u.queue) where
      to_front : (plan_tests p u then take_front (removed u.queue)) (begin u 0) ≡ take_front r (begin u 0)
      to_front = tests_on p u (take_front (removed u.queue)) (begin u 0) s o ∙ ap (λ x. take_front x (begin u 0)) (sym g)

      pub discard_8 : r.done ≡ false → called (as_found 8 0 u) ≡ called (plan_discard p u)
      unfolding plan_discard take_front
      discard_8 d = refusing u (to_front ∙ require_no 8 (change (set_queue r.queue)) (begin u 0) d)

      pub discard_0 : r.done ≡ true → called (quiet (set_queue r.queue u)) ≡ called (plan_discard p u)
      unfolding plan_discard take_front
      discard_0 d = ending u r.queue (to_front ∙ require_on 8 (change (set_queue r.queue)) (begin u 0) d)
