-- Replay over a plan: a list of events, each posted and run by the single calls of 01, up to the first refusal. Assumes nothing.
use Rattle.std.specs.Prelude.{ℕ, suc, ◌/◌, true, false, List, [], ◌∷◌, ℤ, length, eqb}
use Rattle.queue.specs.Numbers.{places}
use Rattle.queue.specs.declared.Item.{Item}
use Rattle.meaning.specs.Calls.{Outcome}
use Rattle.meaning.specs.Machine.{machine_post, machine_run}
use Rattle.meaning.specs.Widget.{ENTRY}
use Rattle.meaning.specs.declared.State.{State}
use Rattle.promises.specs.declared.Replayed.{Replayed}

-- events as numbers: each with its argument after it, as in a lent queue; a last number without an argument is no event
abbrev pub items_of : List ℤ → List Item
items_of = places

-- how a replay goes: how many events were done, the number that stopped it or 0, the state after it, and the trace of the last run
pub record Course : Type 0 where
  pub done : ℕ
  pub number : ℕ
  pub after : State
  pub trace : List ℤ

abbrev pub course : ℕ → ℕ → State → List ℤ → Course
course d n u t = record { done = d; number = n; after = u; trace = t }

-- ---- a fold of any post and run; d events are done, and t is the trace of the last run made

-- after a call: on where it is done, else stopped by its number, with the trace t
unfoldable pub or_stop : ℕ → List ℤ → Outcome → (State → Course) → Course
or_stop d t o next = elim (eqb o.number 0) [
  | true ↦ next o.after
  | false ↦ course d o.number o.after t
]

-- an event is posted and run; a refused post leaves the trace of the last run, a refused run has its own
unfoldable pub replay_by : (Item → State → Outcome) → (State → Outcome) → ℕ → State → List ℤ → List Item → Course
replay_by post run d u t [] = course d 0 u t
replay_by post run d u t (x ∷ xs) =
    or_stop d t (post x u) (λ v. or_stop d (run v).trace (run v) (λ w. replay_by post run (suc d) w (run v).trace xs))

-- ---- replay: each event is posted and run by the single calls, with n trace numbers lent

unfoldable pub replay : List ℤ → State → List Item → ℕ → Course
replay ns u xs n = replay_by (λ x v. machine_post ns v x.event x.arg) (λ v. machine_run ns v n) 0 u [] xs

-- what is told of it: no answer here has a place
unfoldable pub replayed : Course → Replayed
replayed c = record {
  answer = record { number = c.number; place = 0 };
  state = c.after;
  done = c.done;
  entries = length c.trace / ENTRY;
}

-- everything above, opened: for statements that compute
unfoldable pub replay_open : ℕ
unfolding or_stop replay_by replay replayed
replay_open = 0
