-- The ends of a replay, over plain variables: what is told; the tests for 7 and 6; a widget as it is lent; a refused run. Assumes nothing.
use mathlib.Core.Path.{◌≡◌, refl, sym, ap, ◌∙◌, subst}
use Prim.Native.Nat.{ℕ, ◌-◌, ◌/◌, ◌≤◌}
use native.Mathlib.Omega.{arith}
use mathlib.Core.Bool.{Bool, true, false}
use mathlib.Core.List.{List, [], ◌++◌}
use lib.ListN.{length, get_or, replicate, take}
use lib.Seq.{length-take-le}
use lib.IntN.{ℤ, pos}
use Rattle.std.specs.Prelude.{Result, Ok, Err}
use Rattle.queue.specs.Queue.{appended, no_item}
use Rattle.queue.specs.declared.Item.{Item}
use Rattle.queue.specs.declared.Queue.{Queue}
use Rattle.meaning.specs.Calls.{Outcome, outcome, as_found}
use Rattle.meaning.specs.Foreign.{event_fits}
use Rattle.meaning.specs.Lists.{padded}
use Rattle.meaning.specs.Machine.{plan_tests, plan_own}
use Rattle.meaning.specs.Plan.{Plan}
use Rattle.meaning.specs.Steps.{◌then◌, bind, require}
use Rattle.meaning.specs.Widget.{ENTRY, begin, is_active, set_queue}
use Rattle.meaning.specs.declared.State.{State}
use Rattle.plan_invariants.specs.Replay.{post_on, replay_examined}
use Rattle.promises.specs.Replay.{Course, course, or_stop, replayed}
use Rattle.promises.specs.declared.Replayed.{Replayed}
use Rattle.replaying.specs.Course.{Broken, GoneThrough, Halted, Starts, Told, through}
use Rattle.replaying.specs.declared.course.Halt.{Halt}
use Rattle.replaying.specs.declared.turns.Stopped.{Stopped}
use Rattle.replaying.specs.declared.turns.Stopped.TheVariants.{AtPost, AtRun}
use Rattle.replaying.proofs.Turning.{post_0, post_10, post_6, post_9, queued, queued_is}

-- ---- what is told

pub told_none : (n : ℕ) (u : State) (t t₁ : List ℤ) → t₁ ≡ take 0 t ++ replicate (length t - 0) (pos 0)
    → Told (course 0 n u []) t (record { answer = record { number = n; place = 0 }; state = u; done = 0; entries = 0 }) t₁
unfolding replayed padded
told_none n u t t₁ e = record { result = refl; lent = e }

pub told_all : (d n at : ℕ) (u : State) (t t₁ : List ℤ) → at ≤ length t → t₁ ≡ take at t ++ replicate (length t - at) (pos 0)
    → Told (course d n u (take at t)) t
    (record { answer = record { number = n; place = 0 }; state = u; done = d; entries = at / ENTRY }) t₁
unfolding replayed padded
told_all d n at u t t₁ l e =
    let m : length (take at t) ≡ at = length-take-le at t l in
    record { result = rw m refl; lent = rw m e }

pub told_as : {c b : Course} {t s : List ℤ} {r : Replayed} {t₁ : List ℤ} → c ≡ b → length t ≡ length s → Told b s r t₁ → Told c t r t₁
told_as {c} {b} {t} e l h = record {
  result = h.result ∙ ap replayed (sym e);
  lent = h.lent ∙ ap (λ n. padded n (pos 0) b.trace) (sym l) ∙ ap (λ (y : Course). padded (length t) (pos 0) y.trace) (sym e);
}

-- ---- "then 7, 6"

module _ (p : Plan) (u : State) (xs : List Item) (n : ℕ) where
  once_by : (s o : Bool) → u.started ≡ s → plan_own p.states p.vars p.events u ≡ o
      → replay_examined p u xs n ≡ or_stop 0 [] (outcome u ((require 7 s then require 6 o) (begin u 0))) (λ v. through p n v xs)
  unfolding replay_examined plan_tests
  once_by s o e f =
      ap (λ b. or_stop 0 [] (outcome u ((require 7 b then require 6 (plan_own p.states p.vars p.events u)) (begin u 0)))
      (λ v. through p n v xs)) e
      ∙ ap (λ b. or_stop 0 [] (outcome u ((require 7 s then require 6 b) (begin u 0))) (λ v. through p n v xs)) f

  pub once_7 : u.started ≡ false → replay_examined p u xs n ≡ course 0 7 u []
  unfolding or_stop outcome as_found require ◌then◌ bind
  once_7 e = once_by false (plan_own p.states p.vars p.events u) e refl

  pub once_6 : u.started ≡ true → plan_own p.states p.vars p.events u ≡ false → replay_examined p u xs n ≡ course 0 6 u []
  unfolding or_stop outcome as_found require ◌then◌ bind
  once_6 e f = once_by true false e f

  pub once_on : Starts p u → replay_examined p u xs n ≡ through p n u xs
  unfolding or_stop outcome require ◌then◌ bind begin
  once_on h = once_by true true h.started h.own

-- ---- a post that is done appends

posted_after : (p : Plan) (x : Item) (u : State) → (post_on p x u).number ≡ 0
    → (post_on p x u).after ≡ set_queue (appended u.queue x.event x.arg).queue u
unfolding as_found
posted_after p x u z = go (is_active u 0) (event_fits p.events x.event x.arg) (appended u.queue x.event x.arg).done
    refl refl refl
  where
    no : {m : ℕ} → post_on p x u ≡ as_found m 0 u → (m ≡ 0 → ⊥) → ⊥
    no e k = k (ap (λ (o : Outcome). o.number) (sym e) ∙ z)

    go : (a b d : Bool) → is_active u 0 ≡ a → event_fits p.events x.event x.arg ≡ b
        → (appended u.queue x.event x.arg).done ≡ d
        → (post_on p x u).after ≡ set_queue (appended u.queue x.event x.arg).queue u
    go false b d e f g = absurd (no (post_6 p x u e) (λ y. omega arith))
    go true false d e f g = absurd (no (post_10 p x u e refl f) (λ y. omega arith))
    go true true false e f g = absurd (no (post_9 p x u e refl f g) (λ y. omega arith))
    go true true true e f g = ap (λ (o : Outcome). o.after) (post_0 p x u e refl f g)

-- ---- the ends of the events

module _ {p : Plan} {u : State} (h : Starts p u) {t t' : List ℤ} (l : length t' ≡ length t) where
  -- none is left, or a post is refused
  pub ended_told : (xs : List Item) {c : Course} → through p (length t) u xs ≡ c → {r : Replayed} {t₁ : List ℤ}
      → Told c t' r t₁ → Told (replay_examined p u xs (length t)) t r t₁
  ended_told xs y f = told_as (once_on p u xs (length t) h ∙ y) (sym l) f

-- a run is refused, seen from the state that it began with
pub broken_here : {p : Plan} {u : State} (t t' : List ℤ) → length t' ≡ length t → {xs : List Item} {d m : ℕ}
    → Broken p (length t) xs u d m → Broken p (length t') xs u d m
broken_here {p} {u} t t' l {xs} {d} {m} b = subst (λ n. Broken p n xs u d m) (sym l) b

-- the events before a refused run, once more, are not refused: what is lent says the state after them, and the trace keeps its length
again_by : {p : Plan} {u : State} (t : List ℤ) {xs : List Item} {d m : ℕ} → Broken p (length t) xs u d m → (e at : ℕ) (s : Stopped)
    (u' : State) (t' : List ℤ) → Halted p (take d xs) u t e at s u' t' → (through p (length t) u (take d xs)).after ≡ u'
again_by t b e at (AtPost r) u' t' w = ap (λ (c : Course). c.after) w
again_by t b e at (AtRun r) u' t' w = absurd (w.refused (ap (λ (c : Course). c.number) (sym w.ends) ∙ b.done))

again : {p : Plan} {u : State} (t : List ℤ) {xs : List Item} {d m : ℕ} → Broken p (length t) xs u d m → (r : Result ℕ Halt)
    (u' : State) (t' : List ℤ) → GoneThrough p (take d xs) u t r u' t'
    → ((through p (length t) u (take d xs)).after ≡ u') × (length t' ≡ length t)
again t b (Ok at) u' t' w = (ap (λ (c : Course). c.after) w.0, w.2)
again t b (Err g) u' t' w = (again_by t b g.done g.at g.why u' t' w.0, w.2)

module _ {p : Plan} {u : State} (h : Starts p u) (t : List ℤ) {xs : List Item} {d m : ℕ} (b : Broken p (length t) xs u d m)
    (r : Result ℕ Halt) (u' : State) (t' : List ℤ) (w : GoneThrough p (take d xs) u t r u' t') where
  pub broken_told : {x : Item} → get_or xs d no_item ≡ x → {q : Queue} → q ≡ (appended u'.queue x.event x.arg).queue
      → {s : Replayed} {t₁ : List ℤ} → Told (course d m (queued q u') (take 0 t')) t' s t₁
      → Told (replay_examined p u xs (length t)) t s t₁
  broken_told {x} i {q} j f =
      let a : post_on p (get_or xs d no_item) (through p (length t) u (take d xs)).after ≡ post_on p x u' =
      ap (λ y. post_on p y (through p (length t) u (take d xs)).after) i ∙ ap (post_on p x) (again t b r u' t' w).0 in
      let n : (post_on p (get_or xs d no_item) (through p (length t) u (take d xs)).after).after ≡ queued q u' =
      ap (λ (o : Outcome). o.after) a
      ∙ posted_after p x u' (ap (λ (o : Outcome). o.number) (sym a) ∙ b.posted)
      ∙ queued_is (appended u'.queue x.event x.arg).queue u'
      ∙ ap (λ y. queued y u') (sym j) in
      told_as (once_on p u xs (length t) h ∙ b.ends ∙ ap (λ v. course d m v []) n) (sym (again t b r u' t' w).1) f
