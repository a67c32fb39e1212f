-- What one event of a replay asks and says over the widget's state, which is lent: its way through the queue, its post, its run.
-- Assumes nothing.
use Rattle.std.specs.Prelude.{◌≡◌, ℕ, ◌≤◌, true, false, List, length, take, drop, ℤ, Option, None, Some, Result, Ok, Err}
use Rattle.sizes.specs.Sizes.{QUEUE}
use Rattle.queue.specs.Queue.{appended, removed}
use Rattle.queue.specs.declared.Item.{Item}
use Rattle.queue.specs.declared.Queue.{Queue}
use Rattle.meaning.specs.Answers.{number_by}
use Rattle.meaning.specs.Calls.{Outcome, as_found}
use Rattle.meaning.specs.Foreign.{is_none}
use Rattle.meaning.specs.Lists.{every}
use Rattle.meaning.specs.Plan.{Plan}
use Rattle.meaning.specs.declared.State.{State}
use Rattle.plan_invariants.specs.Replay.{post_on, run_on}
use Rattle.replaying.specs.declared.turns.Stopped.{Stopped}
use Rattle.replaying.specs.declared.turns.Stopped.TheVariants.{AtPost, AtRun}

-- "Places not in use hold .. 0 with 0", and there are as many places as a queue has
pub record Free (q : Queue) : Type 0 where
  pub none : every is_none (drop q.len q.items) ≡ true
  pub whole : length q.items ≡ QUEUE

-- an event is appended, and the front is removed; where there is no room nothing is touched
abbrev pub Passes : Queue → ℤ → ℤ → Option Item → Queue → Type 0
Passes q e a None after = ((appended q e a).done ≡ false) × (after ≡ q)
Passes q e a (Some x) after =
    ((appended q e a).done ≡ true) × (x ≡ (removed (appended q e a).queue).front) × (after ≡ (removed (appended q e a).queue).queue)

-- the state after the post of an event, and the run that follows
abbrev pub after_post : Plan → Item → State → State
after_post p x u = (post_on p x u).after

abbrev pub run_after : Plan → Item → State → List ℤ → Outcome
run_after p x u t = run_on p (length t) (after_post p x u)

-- an event that was posted and run; or its post is refused, and nothing is touched; or its run is refused, and nothing is said of the state
abbrev pub Turned : Plan → Item → State → List ℤ → Result ℕ Stopped → State → List ℤ → Type 0
Turned p x u t (Ok at) u' t' =
    ((post_on p x u).number ≡ 0)
    × (run_after p x u t ≡ record { number = 0; place = 0; after = u'; trace = take at t' })
    × (at ≤ length t') × (length t' ≡ length t)
Turned p x u t (Err (AtPost e)) u' t' = (post_on p x u ≡ as_found (number_by e) 0 u) × (u' ≡ u) × (t' ≡ t)
Turned p x u t (Err (AtRun e)) u' t' =
    ((post_on p x u).number ≡ 0) × (run_after p x u t ≡ as_found (number_by e) 0 (after_post p x u)) × (length t' ≡ length t)
