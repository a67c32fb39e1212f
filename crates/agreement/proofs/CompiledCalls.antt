-- A call over the lent slice as compile leaves it (01, "The plan"): the slice is well formed and is the chart's plan, zeros after it
-- included, so the call gives what it gives over the chart value. Assumes nothing.
use mathlib.Core.Path.{◌∙◌, ◌≡◌, ap, refl, subst, sym}
use Prim.Native.Nat.{◌-◌, ℕ}
use mathlib.Core.Bool.{false, true}
use mathlib.Core.List.{List}
use mathlib.Core.Option.{none, some}
use lib.IntN.{pos, ℤ}
use Rattle.agreement.proofs.Blocks.{block_agrees, start_agrees}
use Rattle.agreement.proofs.Calling.{calls_agree, plan_make}
use Rattle.agreement.specs.PlanCalls.{machine_make}
use Rattle.invariants.specs.CallLists.{Call, make, make_of, to_discard, to_post, to_run, to_start}
use Rattle.invariants.proofs.CallLists.{Lived, value_sized, value_sound}
use Rattle.meaning.specs.Calls.{Outcome, discard_of, post_of, as_found, run_of, start_of}
use Rattle.meaning.specs.Compile.{compile_of, plan_lent, plan_of}
use Rattle.meaning.specs.Text.{answer_of}
use Rattle.meaning.specs.Machine.{machine_discard, machine_post, machine_run, machine_start}
use Rattle.meaning.specs.Plan.{Plan}
use Rattle.meaning.specs.Rules.{failing_rule_of}
use Rattle.meaning.specs.Steps.{◌then◌}
use Rattle.meaning.specs.Value.{chart_of}
use Rattle.meaning.specs.WellFormed.{plan_by, well_formed}
use Rattle.meaning.specs.declared.State.{State}
use Rattle.plan_laws.proofs.Compiled.{lent_read_back, lent_ruled, lent_well_formed}

-- ---- a call over well-formed numbers is a call over their plan

module _ (ns : List ℤ) (p : Plan) (well : well_formed ns ≡ true) (reads : plan_by ns ≡ p) where
  made_well : (f : Plan → Outcome) (u : State) → elim (well_formed ns) [ true ↦ f (plan_by ns) | false ↦ as_found 5 0 u ] ≡ f p
  made_well f u = subst (λ b. elim b [ true ↦ f (plan_by ns) | false ↦ as_found 5 0 u ] ≡ f p) (sym well) (ap f reads)

  pub machine_makes : (x : Call) (u : State) → machine_make ns x u ≡ plan_make p x u
  unfolding machine_make plan_make machine_start machine_run machine_post machine_discard
  machine_makes (to_start m) u = made_well (λ q. plan_make q (to_start m) u) u
  machine_makes (to_run m) u = made_well (λ q. plan_make q (to_run m) u) u
  machine_makes (to_post e a) u = made_well (λ q. plan_make q (to_post e a) u) u
  machine_makes to_discard u = made_well (λ q. plan_make q to_discard u) u

-- ---- a call over a value that passes the rules is a call over its chart

module _ (v : List ℤ) (e : failing_rule_of v ≡ none) where
  made_ruled : (f : Outcome) (u : State) → elim (failing_rule_of v) [ none ↦ f | some r ↦ as_found 3 r u ] ≡ f
  made_ruled f u = subst (λ x. elim x [ none ↦ f | some r ↦ as_found 3 r u ] ≡ f) (sym e) refl

  pub value_makes : (x : Call) (u : State) → make_of v x u ≡ make (chart_of v) x u
  unfolding make_of make start_of run_of post_of discard_of
  value_makes (to_start m) u = made_ruled (make (chart_of v) (to_start m) u) u
  value_makes (to_run m) u = made_ruled (make (chart_of v) (to_run m) u) u
  value_makes (to_post i a) u = made_ruled (make (chart_of v) (to_post i a) u) u
  value_makes to_discard u = made_ruled (make (chart_of v) to_discard u) u

-- ---- one call

pub one_call : (v : List ℤ) (n : ℕ) → (answer_of (compile_of v n)).number ≡ 0 → (x : Call) (u : State) → Lived (chart_of v) u
    → machine_make (plan_lent n (compile_of v n)) x u ≡ make_of v x u
unfolding ◌then◌
one_call v n h x u l =
    let e = lent_ruled v n h in
    let r = value_sound v e in
    let z = value_sized v e in
    machine_makes (plan_lent n (compile_of v n)) (plan_of (chart_of v)) (lent_well_formed v n h) (lent_read_back v n h) x u
    ∙ calls_agree (chart_of v) r z (λ a t k w q. block_agrees (chart_of v) r z a t q.0 k w) (start_agrees (chart_of v) (pos 0)) x u l
    ∙ sym (value_makes v e x u)
