-- Replay over a plan as a machine may do it: the plan examined once, and the tests for 7 and 6 made once. That this is the fold of single
-- calls which replay is defined as is proved in proofs/Replay. Assumes nothing.
use Rattle.std.specs.Prelude.{ℕ, true, false, List, [], ◌∷◌, ℤ}
use Rattle.queue.specs.Queue.{removed}
use Rattle.queue.specs.declared.Item.{Item}
use Rattle.meaning.specs.Calls.{Outcome, outcome}
use Rattle.meaning.specs.Effects.{enqueue}
use Rattle.meaning.specs.Foreign.{event_fits}
use Rattle.meaning.specs.Machine.{plan_react, plan_tests}
use Rattle.meaning.specs.Plan.{Plan}
use Rattle.meaning.specs.Steps.{◌then◌, require}
use Rattle.meaning.specs.WellFormed.{plan_by, well_formed}
use Rattle.meaning.specs.Widget.{begin, is_active}
use Rattle.meaning.specs.declared.State.{State}
use Rattle.promises.specs.Replay.{Course, course, or_stop, replay_by}

-- a post that tests of 7 and 6 only the root's mark; then 10, then 9
unfoldable pub post_on : Plan → Item → State → Outcome
post_on p x u =
    outcome u
    ((require 6 (is_active u 0) then require 10 (event_fits p.events x.event x.arg) then enqueue x.event x.arg) (begin u 0))

-- a run right after such a post tests none of them: a post leaves the marks
unfoldable pub run_on : Plan → ℕ → State → Outcome
run_on p n u = outcome u (plan_react p (removed u.queue) (begin u n))

-- over a plan that was examined: "then 7, 6" once, and then event by event
unfoldable pub replay_examined : Plan → State → List Item → ℕ → Course
replay_examined p u xs n = or_stop 0 [] (outcome u (plan_tests p u (begin u 0))) (λ v. replay_by (post_on p) (run_on p n) 0 v [] xs)

-- over any numbers: without an event no call is made; else "plan 5 first"
unfoldable pub replay_once : List ℤ → State → List Item → ℕ → Course
replay_once ns u [] n = course 0 0 u []
replay_once ns u (x ∷ xs) n = elim (well_formed ns) [
  | true ↦ replay_examined (plan_by ns) u (x ∷ xs) n
  | false ↦ course 0 5 u []
]
