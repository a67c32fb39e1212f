-- What follows from the same proof as demand 3: the agreement from every state that passes the chart's test for 6; and a saved state of
-- the chart's runner goes on under the plan, and back, in the middle of a list. Assumes nothing.
use mathlib.Core.Path.{◌≡◌}
use mathlib.Core.Logic.{inr}
use Prim.Native.Nat.{ℕ}
use mathlib.Core.Bool.{true}
use mathlib.Core.List.{List, map}
use lib.IntN.{ℤ}
use Rattle.agreement.proofs.ListsOfCalls.{lists_agree, mixed_agree}
use Rattle.agreement.specs.PlanCalls.{Made, machine_make, mixed_outcomes, outcomes}
use Rattle.invariants.specs.CallLists.{Call, make_of}
use Rattle.invariants.proofs.CallLists.{Lived}
use Rattle.invariants.specs.Good.{Sized}
use Rattle.meaning.specs.Compile.{compile_of, plan_lent}
use Rattle.meaning.specs.Text.{answer_of}
use Rattle.meaning.specs.Foreign.{own}
use Rattle.meaning.specs.Value.{chart_of}
use Rattle.meaning.specs.declared.State.{State}

module _ (v : List ℤ) (n : ℕ) (done : (answer_of (compile_of v n)).number ≡ 0) where
  -- from every started state that passes the chart's test for 6; Sized: its lists are as long as the declared struct's arrays
  pub agreement_onward : (xs : List Call) (u : State) → Sized u → u.started ≡ true → own (chart_of v) u ≡ true
      → outcomes (machine_make (plan_lent n (compile_of v n))) xs u ≡ outcomes (make_of v) xs u
  agreement_onward xs u z s o = lists_agree v n done xs u (inr (record { sized = z; started = s; is_own = o }))

  -- each call is made by the chart's runner or by the plan machine, as the list says: it is the list of calls made by the chart's runner
  -- alone, from a widget not yet started and from one that is the chart's own
  pub mixed : (xs : List Made) (u : State) → Lived (chart_of v) u
      → mixed_outcomes v (plan_lent n (compile_of v n)) xs u ≡ outcomes (make_of v) (map (λ x. x.call) xs) u
  mixed xs u l = mixed_agree v n done xs u l
