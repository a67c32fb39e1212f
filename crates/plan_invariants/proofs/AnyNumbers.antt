-- The calls over any list of numbers as a plan (01, "The plan"): from any lent state, a call that is done leaves a started state that
-- passes the machine's test but for the root's mark, and its trace names only what the plan has. In the order: over a well-formed
-- plan; over any numbers; lists of calls. Assumes nothing.
use mathlib.Core.Path.{◌≡◌, refl, subst, sym}
use mathlib.Core.Logic.{⊎_elim}
use native.Mathlib.Omega.{arith}
use mathlib.Core.Bool.{Bool, false, true}
use mathlib.Core.List.{List, [], ◌∷◌}
use lib.IntN.{ℤ}
use Rattle.agreement.proofs.Calling.{plan_make}
use Rattle.agreement.specs.PlanCalls.{machine_make, outcomes}
use Rattle.invariants.specs.CallLists.{Call, to_discard, to_post, to_run, to_start}
use Rattle.invariants.specs.Good.{Sized}
use Rattle.laws.proofs.Lists.{and_both, same_or}
use Rattle.meaning.specs.Calls.{as_found}
use Rattle.meaning.specs.Lists.{every}
use Rattle.meaning.specs.Plan.{Plan}
use Rattle.meaning.specs.WellFormed.{plan_by, well_formed}
use Rattle.meaning.specs.declared.State.{State}
use Rattle.plan_invariants.proofs.Answering.{formed, unformed}
use Rattle.plan_invariants.proofs.Calls.{CallFacts, plan_discard_facts, plan_post_facts, plan_run_facts, plan_start_facts}
use Rattle.plan_invariants.proofs.Well.{Well, well}
use Rattle.invariants.specs.Named.{all_named}
use Rattle.plan_invariants.specs.Names.{of_plan}

pub plan_facts : (p : Plan) → Well p → (x : Call) (u : State) → Sized u → CallFacts p u (plan_make p x u)
unfolding plan_make
plan_facts p w (to_start n) u z = plan_start_facts p w u n
plan_facts p w (to_run n) u z = plan_run_facts p w u z n
plan_facts p w (to_post e a) u z = plan_post_facts p w u z e a
plan_facts p w to_discard u z = plan_discard_facts p w u z

module _ (ns : List ℤ) where
  -- every call from any lent state whatsoever over a well-formed plan: `Sized` says only that the arrays have their declared sizes
  pub formed_facts : well_formed ns ≡ true → (x : Call) (u : State) → Sized u → CallFacts (plan_by ns) u (machine_make ns x u)
  formed_facts e x u z = subst (CallFacts (plan_by ns) u) (sym (formed ns e x u)) (plan_facts (plan_by ns) (well ns e) x u z)

  refused_5 : (u : State) → CallFacts (plan_by ns) u (as_found 5 0 u)
  unfolding as_found all_named
  refused_5 u = record { done = λ e. absurd (omega arith); rolled_back = λ e. (refl, refl); named = refl }

  -- over any numbers
  pub machine_facts : (x : Call) (u : State) → Sized u → CallFacts (plan_by ns) u (machine_make ns x u)
  machine_facts x u z = go (well_formed ns) refl
    where
      go : (b : Bool) → well_formed ns ≡ b → CallFacts (plan_by ns) u (machine_make ns x u)
      go true e = formed_facts e x u z
      go false e = subst (CallFacts (plan_by ns) u) (sym (unformed ns e x u)) (refused_5 u)

  -- ---- lists of calls, each from the state that the one before left

  pub stays_sized : (x : Call) (u : State) → Sized u → Sized (machine_make ns x u).after
  stays_sized x u z =
      let f = machine_facts x u z in
      ⊎_elim (λ e. (f.done e).sized) (λ e. subst Sized (sym (f.rolled_back e).0) z) (same_or (machine_make ns x u).number 0)

  pub every_trace_named : (xs : List Call) (u : State) → Sized u
      → every (λ o. all_named (of_plan (plan_by ns)) o.trace) (outcomes (machine_make ns) xs u) ≡ true
  unfolding every outcomes
  every_trace_named [] u z = refl
  every_trace_named (x ∷ xs) u z =
      and_both _ _ (machine_facts x u z).named (every_trace_named xs (machine_make ns x u).after (stays_sized x u z))
