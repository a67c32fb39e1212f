-- One event posted and run, test by test, over plain variables. Assumes nothing.
use mathlib.Core.Path.{◌≡◌, refl, sym, ap, ◌∙◌, subst}
use Prim.Native.Nat.{ℕ}
use mathlib.Core.Bool.{Bool, true, false}
use mathlib.Core.List.{List, []}
use lib.ListN.{length, get_or}
use lib.IntN.{ℤ}
use Rattle.numbers.specs.Reference.{ref}
use Rattle.queue.specs.Queue.{appended, removed}
use Rattle.queue.specs.declared.Item.{Item}
use Rattle.queue.specs.declared.Queue.{Queue}
use Rattle.queue.specs.Queue.{Removed}
use Rattle.meaning.specs.Calls.{outcome, as_found, take_front}
use Rattle.meaning.specs.Effects.{enqueue, take_queue}
use Rattle.meaning.specs.Foreign.{event_fits}
use Rattle.meaning.specs.Machine.{plan_react, plan_settle, plan_step}
use Rattle.meaning.specs.Plan.{Plan}
use Rattle.meaning.specs.Steps.{Step, ◌then◌, bind, look, require}
use Rattle.meaning.specs.Widget.{Ctx, begin, change, is_active, set_queue}
use Rattle.meaning.specs.declared.State.{State}
use Rattle.std.specs.Prelude.{Result, Ok, Err, None, Some, IsErrAnd, MatchResult}
use Rattle.meaning.specs.Answers.{number_by}
use Rattle.meaning.specs.declared.answers.Refusal.{Refusal}
use Rattle.meaning.specs.declared.answers.Refusal.TheVariants.{Foreign, NoSuchEvent, QueueFull}
use Rattle.replaying.specs.declared.turns.Stopped.{Stopped}
use Rattle.replaying.specs.declared.turns.Stopped.TheVariants.{AtPost, AtRun}
use Rattle.widget.specs.View.{Did}
use Rattle.widget.proofs.Ending.{ended, ends_done, ends_refused}
use Rattle.plan_invariants.specs.Replay.{post_on, run_on}
use Rattle.machine.proofs.Gates.{require_no, require_on}
use Rattle.replaying.specs.Turns.{Passes, Turned}
use Rattle.replaying.proofs.Passing.{is_taken, room_len}

-- ---- the post

module _ (p : Plan) (x : Item) (u : State) where
  rest : Step Ctx
  rest = require 10 (event_fits p.events x.event x.arg) then enqueue x.event x.arg

  pub post_6 : is_active u 0 ≡ false → post_on p x u ≡ as_found 6 0 u
  unfolding post_on rest outcome
  post_6 a = ap (outcome u) (require_no 6 rest (begin u 0) a)

  module _ (a : is_active u 0 ≡ true) {n : ℕ} (k : n ≡ p.events) where
    pub post_10 : event_fits n x.event x.arg ≡ false → post_on p x u ≡ as_found 10 0 u
    unfolding post_on rest outcome
    post_10 f = ap (outcome u) (require_on 6 rest (begin u 0) a
        ∙ require_no 10 (enqueue x.event x.arg) (begin u 0) (ap (λ m. event_fits m x.event x.arg) (sym k) ∙ f))

    module _ (f : event_fits n x.event x.arg ≡ true) where
      to_queue : (require 6 (is_active u 0) then rest) (begin u 0) ≡ take_queue (appended u.queue x.event x.arg) (begin u 0)
      unfolding rest enqueue look begin
      to_queue = require_on 6 rest (begin u 0) a
          ∙ require_on 10 (enqueue x.event x.arg) (begin u 0) (ap (λ m. event_fits m x.event x.arg) (sym k) ∙ f)

      pub post_9 : (appended u.queue x.event x.arg).done ≡ false → post_on p x u ≡ as_found 9 0 u
      unfolding post_on rest outcome take_queue
      post_9 d = ap (outcome u) (to_queue
          ∙ require_no 9 (change (set_queue (appended u.queue x.event x.arg).queue)) (begin u 0) d)

      pub post_0 : (appended u.queue x.event x.arg).done ≡ true
          → post_on p x u ≡ ended (set_queue (appended u.queue x.event x.arg).queue u) []
      unfolding post_on rest outcome take_queue change begin
      post_0 d = ap (outcome u) (to_queue
          ∙ require_on 9 (change (set_queue (appended u.queue x.event x.arg).queue)) (begin u 0) d)

-- ---- the run that follows it

module _ (C G : Step Ctx) (d : Bool) (k : Ctx) where
  one_waits : d ≡ true → ((require 8 d then C) then G) k ≡ bind (C k) G
  unfolding ◌then◌ require bind
  one_waits g = rw g

-- the steps of a run with this front
abbrev pub steps : Plan → Removed → Step Ctx
steps p r = plan_step p (ref r.front.event) r.front.arg then plan_settle p

run_taken : (p : Plan) (n : ℕ) (v : State) → (removed v.queue).done ≡ true
    → run_on p n v ≡ outcome v (steps p (removed v.queue) (begin (set_queue (removed v.queue).queue v) n))
unfolding run_on plan_react take_front change bind begin
run_taken p n v d = ap (outcome v) (one_waits (change (set_queue (removed v.queue).queue)) (steps p (removed v.queue))
    (removed v.queue).done (begin v n) d)

-- ---- the ways that an event goes

-- the state with another queue
abbrev pub queued : Queue → State → State
queued q u = record { started = u.started; active = u.active; slots = u.slots; vars = u.vars; queue = q }

pub queued_is : (q : Queue) (u : State) → set_queue q u ≡ queued q u
unfolding set_queue
queued_is q u = refl

module _ (p : Plan) (x : Item) (u : State) (t : List ℤ) where
  pub turned_6 : get_or u.active 0 false ≡ false → Turned p x u t (Err (AtPost Foreign)) u t
  unfolding is_active
  turned_6 a = (post_6 p x u a, refl, refl)

  module _ (b : get_or u.active 0 false ≡ true) {n : ℕ} (g : n ≡ p.events) where
    a : is_active u 0 ≡ true
    unfolding is_active
    a = b

    pub turned_10 : event_fits n x.event x.arg ≡ false → Turned p x u t (Err (AtPost NoSuchEvent)) u t
    turned_10 f = (post_10 p x u a g f, refl, refl)

    module _ (f : event_fits n x.event x.arg ≡ true) where
      pub turned_9 : {q : Queue} → Passes u.queue x.event x.arg None q → Turned p x u t (Err (AtPost QueueFull)) (queued q u) t
      turned_9 m = (post_9 p x u a g f m.0, ap (λ y. queued y u) m.1, refl)

      module _ {y : Item} {q : Queue} (m : Passes u.queue x.event x.arg (Some y) q) where
        v : State
        v = set_queue (appended u.queue x.event x.arg).queue u

        posts : post_on p x u ≡ ended v []
        unfolding v
        posts = post_0 p x u a g f m.0

        E : Step Ctx
        E = plan_step p (ref y.event) y.arg then plan_settle p

        runs : run_on p (length t) v ≡ outcome v (E (begin (queued q u) (length t)))
        unfolding v E set_queue
        runs =
            run_taken p (length t) v (is_taken u.queue x.event x.arg (room_len u.queue x.event x.arg m.0))
            ∙ ap (λ z. outcome v ((plan_step p (ref z.event) z.arg then plan_settle p)
            (begin (set_queue (removed (appended u.queue x.event x.arg).queue).queue v) (length t)))) (sym m.1)
            ∙ ap (λ z. outcome v (E (begin (queued z u) (length t)))) (sym m.2)

        after_is : run_on p (length t) (post_on p x u).after ≡ run_on p (length t) v
        after_is = ap (λ o. run_on p (length t) o.after) posts

        module _ {e : ℕ} {c : ℤ} (ee : e ≡ ref y.event) (ce : c ≡ y.arg) {u' : State} {t' : List ℤ} where
          ran : {w : Result ℕ Refusal} → Did (plan_step p e c then plan_settle p) (queued q u) t 0 w u' t' → Did E (queued q u) t 0 w u' t'
          unfolding E
          ran {w} d = subst (λ z. Did (plan_step p (ref y.event) z then plan_settle p) (queued q u) t 0 w u' t') ce
              (subst (λ z. Did (plan_step p z c then plan_settle p) (queued q u) t 0 w u' t') ee d)

          turned_on : {at : ℕ} → Did (plan_step p e c then plan_settle p) (queued q u) t 0 (Ok at) u' t'
              → Turned p x u t (Ok at) u' t'
          turned_on d = (ap (λ o. o.number) posts, after_is ∙ runs ∙ ends_done v (ran d), d.fits, d.kept)

          turned_stop : {r : Refusal} → Did (plan_step p e c then plan_settle p) (queued q u) t 0 (Err r) u' t'
              → Turned p x u t (Err (AtRun r)) u' t'
          turned_stop {r} d = (
            ap (λ o. o.number) posts,
            after_is ∙ runs ∙ ends_refused v (ran d) ∙ ap (λ o. as_found (number_by r) 0 o.after) (sym posts),
            d.kept,
          )

          -- what the run gives, and what is told of the event
          pub turned_run : (w : Result ℕ Refusal) (r : Result ℕ Stopped)
              → MatchResult w (λ at. r ≡ Ok at) (λ g. IsErrAnd r (λ s. s ≡ AtRun g))
              → Did (plan_step p e c then plan_settle p) (queued q u) t 0 w u' t' → Turned p x u t r u' t'
          turned_run (Ok at) r h d = subst (λ z. Turned p x u t z u' t') (sym h) (turned_on d)
          turned_run (Err g) (Ok n) h d = absurd h
          turned_run (Err g) (Err s) h d = subst (λ z. Turned p x u t (Err z) u' t') (sym h) (turned_stop d)
