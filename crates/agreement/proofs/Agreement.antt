-- Demand 3: the plan does what the chart does. For every chart value and every number n of lent numbers for which compiling is done (the
-- chart passes the rules and its plan fits), and every list of starts, runs, posts and discards with any events, arguments and buffer
-- lengths, from every widget not yet started, whatever else it holds: each call over the lent slice as compile leaves it, zeros after the
-- plan included, gives the answer, the place, the state and the trace that it gives over the chart value; refused calls too.
-- Both sides are what the public functions promise. Assumes nothing.
use mathlib.Core.Path.{◌≡◌}
use mathlib.Core.Logic.{inl}
use Prim.Native.Nat.{ℕ}
use mathlib.Core.Bool.{false}
use mathlib.Core.List.{List}
use lib.IntN.{ℤ}
use Rattle.agreement.proofs.ListsOfCalls.{lists_agree}
use Rattle.agreement.specs.PlanCalls.{machine_make, outcomes}
use Rattle.invariants.specs.CallLists.{Call, make_of}
use Rattle.meaning.specs.Compile.{compile_of, plan_lent}
use Rattle.meaning.specs.Text.{answer_of}
use Rattle.meaning.specs.declared.State.{State}

pub agreement : (v : List ℤ) (n : ℕ) → (answer_of (compile_of v n)).number ≡ 0 → (xs : List Call) (u : State) → u.started ≡ false
    → outcomes (machine_make (plan_lent n (compile_of v n))) xs u ≡ outcomes (make_of v) xs u
agreement v n done xs u l = lists_agree v n done xs u (inl l)
