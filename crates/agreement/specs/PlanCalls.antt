-- What demand 3 compares: a call over numbers handed over as a plan, and all that a list of calls gives. Assumes nothing.
use Rattle.std.specs.Prelude.{List, [], ◌∷◌, ℤ}
use Rattle.invariants.specs.CallLists.{Call, make_of, to_discard, to_post, to_run, to_start}
use Rattle.meaning.specs.Calls.{Outcome}
use Rattle.meaning.specs.Machine.{machine_discard, machine_post, machine_run, machine_start}
use Rattle.meaning.specs.declared.State.{State}

-- a call over a plan, as the public functions promise it
unfoldable pub machine_make : List ℤ → Call → State → Outcome
machine_make ns (to_start n) u = machine_start ns u n
machine_make ns (to_run n) u = machine_run ns u n
machine_make ns (to_post e a) u = machine_post ns u e a
machine_make ns to_discard u = machine_discard ns u

-- answer, place, state and trace of each call of a list, each from the state that the one before left
unfoldable pub outcomes : (Call → State → Outcome) → List Call → State → List Outcome
outcomes m [] u = []
outcomes m (x ∷ xs) u = m x u ∷ outcomes m xs (m x u).after

-- who makes a call: the chart's runner, or the plan machine
pub data Runner : Type 0 where
  by_chart by_plan : Runner

-- a call with its runner
pub record Made : Type 0 where
  pub runner : Runner
  pub call : Call

unfoldable pub made_by : List ℤ → List ℤ → Runner → Call → State → Outcome
made_by v ns by_chart x u = make_of v x u
made_by v ns by_plan x u = machine_make ns x u

-- the same where the runner changes from call to call, the widget going over as it stands
unfoldable pub mixed_outcomes : List ℤ → List ℤ → List Made → State → List Outcome
mixed_outcomes v ns [] u = []
mixed_outcomes v ns (x ∷ xs) u =
    made_by v ns x.runner x.call u ∷ mixed_outcomes v ns xs (made_by v ns x.runner x.call u).after
