-- A run, test by test, and the widget that it works on: laws over plain variables. Assumes nothing.
use mathlib.Core.Path.{◌≡◌, sym, ap, ◌∙◌}
use Prim.Native.Nat.{ℕ}
use mathlib.Core.Bool.{Bool, true, false}
use mathlib.Core.List.{List}
use lib.ListN.{length}
use lib.IntN.{ℤ}
use Rattle.numbers.specs.Reference.{ref}
use Rattle.queue.specs.Queue.{removed}
use Rattle.std.specs.Prelude.{Result}
use Rattle.meaning.specs.declared.answers.Refusal.{Refusal}
use Rattle.widget.specs.View.{went, Did}
use Rattle.queue.specs.Queue.{Removed}
use Rattle.meaning.specs.declared.State.{State}
use Rattle.meaning.specs.declared.Called.{Called}
use Rattle.meaning.specs.Steps.{refuse, Step, bind, ◌then◌, require}
use Rattle.meaning.specs.Plan.{Plan}
use Rattle.meaning.specs.Widget.{Ctx, set_queue, change, begin}
use Rattle.meaning.specs.Calls.{as_found, outcome, take_front}
use Rattle.meaning.specs.Machine.{plan_step, plan_settle, plan_react, plan_run}
use Rattle.ends.proofs.Ending.{Ends, ends_steps}
use Rattle.machine.proofs.Gates.{owns, tests_7, tests_6, tests_on}

-- ---- the tests in turn

module _ (C G : Step Ctx) (d : Bool) (k : Ctx) where
  none_waits : d ≡ false → ((require 8 d then C) then G) k ≡ refuse 8
  unfolding ◌then◌ require bind
  none_waits g = rw g

  one_waits : d ≡ true → ((require 8 d then C) then G) k ≡ bind (C k) G
  unfolding ◌then◌ require bind
  one_waits g = rw g

module _ (p : Plan) (u : State) (n : ℕ) where
  pub run_7 : u.started ≡ false → plan_run p u n ≡ as_found 7 0 u
  unfolding plan_run outcome
  run_7 e = ap (outcome u) (tests_7 p u (plan_react p (removed u.queue)) (begin u n) e)

  module _ (s : u.started ≡ true) where
    pub run_6 : owns p u ≡ false → plan_run p u n ≡ as_found 6 0 u
    unfolding plan_run outcome
    run_6 e = ap (outcome u) (tests_6 p u (plan_react p (removed u.queue)) (begin u n) s e)

    module _ (o : owns p u ≡ true) (m : Removed) (x : m ≡ removed u.queue) where
      pub run_8 : m.done ≡ false → plan_run p u n ≡ as_found 8 0 u
      unfolding plan_run plan_react take_front outcome
      run_8 e =
          ap (outcome u) (tests_on p u (plan_react p (removed u.queue)) (begin u n) s o
          ∙ none_waits _ _ (removed u.queue).done (begin u n) (ap (λ y. y.done) (sym x) ∙ e))

      pub run_on : m.done ≡ true
          → plan_run p u n ≡ outcome u ((plan_step p (ref m.front.event) m.front.arg then plan_settle p) (begin
          (set_queue m.queue u) n))
      unfolding plan_run plan_react take_front change bind begin
      run_on e =
          ap (outcome u) (tests_on p u (plan_react p (removed u.queue)) (begin u n) s o
          ∙ one_waits _ _ (removed u.queue).done (begin u n) (ap (λ y. y.done) (sym x) ∙ e))
          ∙ ap (λ y. outcome u ((plan_step p (ref y.front.event) y.front.arg then plan_settle p) (begin (set_queue
          y.queue u) n))) (sym x)

-- ---- the widget at the start of a run

module _ (p : Plan) (u : State) (m : Removed) (x : m ≡ removed u.queue) (s : u.started ≡ true) (o : owns p u ≡ true) (d : m.done ≡ true) where
  pub run_ends : {e : ℕ} {a : ℤ} (v : State) (t : List ℤ) {w : Result ℕ Refusal} {v₁ : State} {t₁ : List ℤ} (r : Called) (t₂ : List ℤ)
      → v ≡ set_queue m.queue u → e ≡ ref m.front.event → a ≡ m.front.arg
      → Did (plan_step p e a then plan_settle p) v t 0 w v₁ t₁
      → Ends (outcome u (went w v₁ t₁)) t₁ r t₂ → Ends (plan_run p u (length t)) t r t₂
  run_ends {e} {a} v t r t₂ h i j g f =
      ends_steps u (plan_run p u (length t)) r t₂ g
      (run_on p u (length t) s o m x d
      ∙ ap (λ y. outcome u ((plan_step p y m.front.arg then plan_settle p) (begin (set_queue m.queue u) (length t)))) (sym i)
      ∙ ap (λ y. outcome u ((plan_step p e y then plan_settle p) (begin (set_queue m.queue u) (length t)))) (sym j)
      ∙ ap (λ y. outcome u ((plan_step p e a then plan_settle p) (begin y (length t)))) (sym h)) f
