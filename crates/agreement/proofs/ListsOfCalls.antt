-- Lists of calls over the lent slice as compile leaves it: each gives what it gives over the chart, from every widget that is not yet
-- started or that is the chart's own; also where the runner changes from call to call. Assumes nothing.
use mathlib.Core.Path.{◌∙◌, ◌≡◌, ap, refl}
use Prim.Native.Nat.{ℕ}
use mathlib.Core.List.{List, [], ◌∷◌, map}
use lib.IntN.{ℤ}
use Rattle.agreement.proofs.CompiledCalls.{one_call}
use Rattle.agreement.specs.PlanCalls.{Made, Runner, by_chart, by_plan, machine_make, made_by, mixed_outcomes, outcomes}
use Rattle.invariants.specs.CallLists.{Call, make_of}
use Rattle.invariants.proofs.CallLists.{Lived, make_of_lives}
use Rattle.meaning.specs.Compile.{compile_of, plan_lent}
use Rattle.meaning.specs.Text.{answer_of}
use Rattle.meaning.specs.Value.{chart_of}
use Rattle.meaning.specs.declared.State.{State}

module _ (v : List ℤ) (n : ℕ) (done : (answer_of (compile_of v n)).number ≡ 0) where
  abbrev plan : List ℤ
  plan = plan_lent n (compile_of v n)

  pub lists_agree : (xs : List Call) (u : State) → Lived (chart_of v) u → outcomes (machine_make plan) xs u ≡ outcomes (make_of v) xs u
  unfolding outcomes
  lists_agree [] u l = refl
  lists_agree (x ∷ xs) u l =
      ap (λ o. o ∷ outcomes (machine_make plan) xs o.after) (one_call v n done x u l)
      ∙ ap (λ os. make_of v x u ∷ os) (lists_agree xs (make_of v x u).after (make_of_lives v x u l).lived)

  either_agrees : (r : Runner) (x : Call) (u : State) → Lived (chart_of v) u → made_by v plan r x u ≡ make_of v x u
  unfolding made_by
  either_agrees by_chart x u l = refl
  either_agrees by_plan x u l = one_call v n done x u l

  pub mixed_agree : (xs : List Made) (u : State) → Lived (chart_of v) u
      → mixed_outcomes v plan xs u ≡ outcomes (make_of v) (map (λ x. x.call) xs) u
  unfolding outcomes mixed_outcomes
  mixed_agree [] u l = refl
  mixed_agree (x ∷ xs) u l =
      ap (λ o. o ∷ mixed_outcomes v plan xs o.after) (either_agrees x.runner x.call u l)
      ∙ ap (λ os. make_of v x.call u ∷ os) (mixed_agree xs (make_of v x.call u).after (make_of_lives v x.call u l).lived)
