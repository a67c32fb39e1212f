-- A run, test by test, and the widget that it works on: laws over plain variables. Assumes nothing.
use Rattle.std.specs.Prelude.{Result, Ok}
use mathlib.Core.Path.{◌≡◌, sym, ap, ◌∙◌, subst}
use Prim.Native.Nat.{ℕ, ◌<◌}
use native.Mathlib.Omega.{arith}
use mathlib.Core.Bool.{Bool, true, false, false≢true}
use mathlib.Core.List.{List}
use mathlib.Core.Logic.{⊎_elim}
use lib.ListN.{length}
use lib.IntN.{ℤ}
use Rattle.sizes.specs.Sizes.{QUEUE}
use Rattle.numbers.specs.Reference.{ref}
use Rattle.queue.specs.Queue.{removed}
use Rattle.queue.specs.Queue.{Removed}
use Rattle.queue.proofs.Waiting.{removed_none}
use Rattle.queue.proofs.Tidy.{removed_long}
use Rattle.meaning.specs.declared.State.{State}
use Rattle.meaning.specs.declared.Called.{Called}
use Rattle.meaning.specs.Steps.{refuse, Step, bind, ◌then◌, require}
use Rattle.meaning.specs.Chart.{Chart}
use Rattle.meaning.specs.Value.{chart_of}
use Rattle.meaning.specs.Widget.{Ctx, set_queue, change, begin}
use Rattle.meaning.specs.Reaction.{step, settle}
use Rattle.meaning.specs.Foreign.{own, queue_fits}
use Rattle.meaning.specs.Calls.{as_found, outcome, tests, take_front, react, run}
use Rattle.laws.proofs.Lists.{le_or_lt}
use Rattle.meaning.specs.Rules.{Ruled}
use Rattle.tree.proofs.Passing.{sound}
use Rattle.meaning.specs.declared.answers.Refusal.{Refusal}
use Rattle.widget.specs.View.{went, Did}
use Rattle.widget.proofs.Ending.{begins}
use Rattle.invariants.proofs.Good.{set_queue_good}
use Rattle.invariants.specs.Good.{Good, Sized}
use Rattle.invariants.proofs.GoodReaction.{step_good}
use Rattle.invariants.proofs.Values.{removed_fits}
use Rattle.invariants.proofs.Own.{own_whole}
use Rattle.reaction.specs.Ready.{Ready}
use Rattle.reaction.proofs.Going.{sized, ready_next}
use Rattle.ends.proofs.Ending.{Ends, ends_steps}

-- ---- one step and null steps

pub step_ready : (v : List ℤ) → Ruled v → (e : ℕ) (arg : ℤ) {u : State} {t : List ℤ} {at n : ℕ} {u₁ : State} {t₁ : List ℤ}
    → Ready (chart_of v) u t at → Did (step (chart_of v) e arg) u t at (Ok n) u₁ t₁ → Ready (chart_of v) u₁ t₁ n
step_ready v r e arg h d = ready_next (chart_of v) (step_good (chart_of v) (sound v r) (sized v r) arg e) d h

-- ---- the tests in turn

module _ (b o : Bool) (k : Ctx) where
  not_started : (F : Step Ctx) → b ≡ false → ((require 7 b then require 6 o) then F) k ≡ refuse 7
  unfolding ◌then◌ require bind
  not_started F e = rw e

  foreign : (F : Step Ctx) → b ≡ true → o ≡ false → ((require 7 b then require 6 o) then F) k ≡ refuse 6
  unfolding ◌then◌ require bind
  foreign F e f = rw (e, f)

  module _ (C G : Step Ctx) (d : Bool) where
    none_waits : b ≡ true → o ≡ true → d ≡ false → ((require 7 b then require 6 o) then ((require 8 d then C) then G)) k ≡ refuse 8
    unfolding ◌then◌ require bind
    none_waits e f g = rw (e, f, g)

    one_waits : b ≡ true → o ≡ true → d ≡ true → ((require 7 b then require 6 o) then ((require 8 d then C) then G)) k ≡ bind (C k) G
    unfolding ◌then◌ require bind
    one_waits e f g = rw (e, f, g)

module _ (c : Chart) (u : State) (n : ℕ) where
  pub run_7 : u.started ≡ false → run c u n ≡ as_found 7 0 u
  unfolding run tests outcome
  run_7 e = ap (outcome u) (not_started u.started (own c u) (begin u n) (react c (removed u.queue)) e)

  pub run_6 : u.started ≡ true → own c u ≡ false → run c u n ≡ as_found 6 0 u
  unfolding run tests outcome
  run_6 s e = ap (outcome u) (foreign u.started (own c u) (begin u n) (react c (removed u.queue)) s e)

  module _ (m : Removed) (x : m ≡ removed u.queue) (s : u.started ≡ true) (o : own c u ≡ true) where
    pub run_8 : m.done ≡ false → run c u n ≡ as_found 8 0 u
    unfolding run tests react take_front outcome
    run_8 e = ap (outcome u) (none_waits u.started (own c u) (begin u n) _ _ (removed u.queue).done s o (ap
        (λ y. y.done) (sym x) ∙ e))

    pub run_on : m.done ≡ true
        → run c u n ≡ outcome u ((step c (ref m.front.event) m.front.arg then settle c) (begin (set_queue m.queue u) n))
    unfolding run tests react take_front change bind begin
    run_on e =
        ap (outcome u) (one_waits u.started (own c u) (begin u n) _ _ (removed u.queue).done s o (ap (λ y. y.done) (sym x) ∙ e))
        ∙ ap (λ y. outcome u ((step c (ref y.front.event) y.front.arg then settle c) (begin (set_queue y.queue u) n))) (sym x)

-- ---- the widget at the start of a run

module _ (v : List ℤ) (h : Ruled v) (u : State) (z : Sized u) (m : Removed) (x : m ≡ removed u.queue) (s : u.started ≡ true)
    (o : own (chart_of v) u ≡ true) (d : m.done ≡ true) where
  waits : 0 < u.queue.len
  waits = ⊎_elim (λ l. absurd (false≢true (sym (ap (λ r. r.done) (removed_none u.queue (omega arith))) ∙ sym (ap (λ y. y.done) x)
      ∙ d))) (λ l. l) (le_or_lt u.queue.len 0)

  good : (n : ℕ) → Good (chart_of v) (begin u n)
  good n = (own_whole (chart_of v) (sound v h) (sized v h) u n (record { sized = z; started = s; is_own = o })).1

  fits : queue_fits (chart_of v).events m.queue ≡ true
  fits = rw x (removed_fits (chart_of v).events u.queue (unfold begin in (good 0).queue) z.items waits)

  long : length m.queue.items ≡ QUEUE
  long = rw x (removed_long u.queue (omega (arith, z.items)) ∙ z.items)

  taken : (n : ℕ) → Good (chart_of v) (begin (set_queue m.queue u) n)
  unfolding change begin
  taken n = set_queue_good (chart_of v) m.queue fits long (begin u n) (good n)

  pub run_ready : (t : List ℤ) → Ready (chart_of v) (set_queue m.queue u) t 0
  run_ready t = record {
    good = subst (Good (chart_of v)) (sym (begins (set_queue m.queue u) t)) (taken (length t));
    fits = omega arith;
  }

  -- the end of a run
  pub run_ends : (e : ℕ) (arg : ℤ) (t : List ℤ) {w : Result ℕ Refusal} {u₁ : State} {t₁ : List ℤ} (r : Called) (t₂ : List ℤ)
      → e ≡ ref m.front.event → arg ≡ m.front.arg
      → Did (step (chart_of v) e arg then settle (chart_of v)) (set_queue m.queue u) t 0 w u₁ t₁
      → Ends (outcome u (went w u₁ t₁)) t₁ r t₂ → Ends (run (chart_of v) u (length t)) t r t₂
  run_ends e arg t r t₂ p q g f = ends_steps u _ r t₂ g
      (run_on (chart_of v) u (length t) m x s o d
      ∙ ap (λ i. outcome u ((step (chart_of v) (ref m.front.event) i then settle (chart_of v)) (begin (set_queue m.queue u) (length t))))
      (sym q)
      ∙ ap (λ i. outcome u ((step (chart_of v) i arg then settle (chart_of v)) (begin (set_queue m.queue u) (length t)))) (sym p)) f
