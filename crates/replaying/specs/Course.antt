-- What the events of a replay ask and say over what is lent: a widget that passed the tests, how far they went, and what is told at the
-- end. Assumes nothing.
use Rattle.std.specs.Prelude.{◌≡◌, ℕ, ◌<◌, ◌≤◌, true, Result, Ok, Err, List, [], length, get_or, take, ℤ, pos}
use Rattle.queue.specs.Queue.{no_item}
use Rattle.queue.specs.declared.Item.{Item}
use Rattle.invariants.specs.Good.{Sized}
use Rattle.meaning.specs.Machine.{plan_own}
use Rattle.meaning.specs.Lists.{padded}
use Rattle.meaning.specs.Plan.{Plan}
use Rattle.meaning.specs.declared.State.{State}
use Rattle.meaning.specs.Answers.{number_by}
use Rattle.plan_invariants.specs.Replay.{post_on, run_on}
use Rattle.promises.specs.Replay.{Course, course, replay_by, replayed}
use Rattle.promises.specs.declared.Replayed.{Replayed}
use Rattle.replaying.specs.declared.course.Halt.{Halt}
use Rattle.replaying.specs.declared.turns.Stopped.{Stopped}
use Rattle.replaying.specs.declared.turns.Stopped.TheVariants.{AtPost, AtRun}

-- a started state, its arrays of 01's size, that passes the plan machine's test for 6
pub record Starts (p : Plan) (u : State) : Type 0 where
  pub sized : Sized u
  pub started : u.started ≡ true
  pub own : plan_own p.states p.vars p.events u ≡ true

-- events from a state that passed the tests, with n trace numbers lent
abbrev pub through : Plan → ℕ → State → List Item → Course
through p n u xs = replay_by (post_on p) (run_on p n) 0 u [] xs

-- the run of event d is refused with the number m: those before it are done, it is posted, and there it ends, with no trace
pub record Broken (p : Plan) (n : ℕ) (xs : List Item) (u : State) (d m : ℕ) : Type 0 where
  pub within : d < length xs
  pub refused : m ≡ 0 → ⊥
  pub done : (through p n u (take d xs)).number ≡ 0
  pub posted : (post_on p (get_or xs d no_item) (through p n u (take d xs)).after).number ≡ 0
  pub ends : through p n u xs ≡ course d m (post_on p (get_or xs d no_item) (through p n u (take d xs)).after).after []

-- events that were stopped: a post is refused, and then what is lent says the state; or a run is refused
abbrev pub Halted : Plan → List Item → State → List ℤ → ℕ → ℕ → Stopped → State → List ℤ → Type 0
Halted p xs u t d at (AtPost e) u' t' = through p (length t) u xs ≡ course d (number_by e) u' (take at t')
Halted p xs u t d at (AtRun e) u' t' = Broken p (length t) xs u d (number_by e)

-- events that were gone through up to the last, or stopped before it
abbrev pub GoneThrough : Plan → List Item → State → List ℤ → Result ℕ Halt → State → List ℤ → Type 0
GoneThrough p xs u t (Ok at) u' t' =
    (through p (length t) u xs ≡ course (length xs) 0 u' (take at t')) × (at ≤ length t') × (length t' ≡ length t)
GoneThrough p xs u t (Err h) u' t' =
    Halted p xs u t h.done h.at h.why u' t' × (h.at ≤ length t') × (length t' ≡ length t)

-- what is told of a replay: its result, and the last run's trace with 0 past it
pub record Told (c : Course) (trace : List ℤ) (r : Replayed) (after : List ℤ) : Type 0 where
  pub result : r ≡ replayed c
  pub lent : after ≡ padded (length trace) (pos 0) c.trace
