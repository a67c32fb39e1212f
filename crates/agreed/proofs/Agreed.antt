-- Demand 3 down to the code: whatever results the contracts of the engine's calls over a chart and of its calls over a plan allow
-- on the same arguments, they are equal, and so is what they wrote where it was lent. The contracts are those of the source
-- (`Learnt`), not copies: compile's, by which the plan is the slice as compile left it; the chart call's; the plan call's.
-- Assumes nothing.
use mathlib.Core.Path.{◌≡◌, refl, subst, sym}
use Prim.Native.Nat.{ℕ}
use mathlib.Core.List.{List}
use lib.IntN.{ℤ}
use lib.ListN.{length}
use contract.Lifetimes.{Lfts}
use Rattle.agreed.proofs.Promised.{discards_agree, posts_agree, runs_agree, starts_agree}
use Rattle.invariants.proofs.CallLists.{Lived}
use Rattle.meaning.specs.Value.{chart_of}
use Rattle.meaning.specs.declared.State.{State}
use Rattle.meaning.specs.declared.plan.Compiled.{Compiled}
use Rattle.promises.specs.Promises.{Discarded, PlanDiscarded, PlanPosted, PlanRan, PlanStarted, Posted, Ran, Started}
use Rattle.chart_engine.proofs.start.Reads as start-reads
use Rattle.chart_engine.proofs.run.Reads as run-reads
use Rattle.chart_engine.proofs.post.Reads as post-reads
use Rattle.chart_engine.proofs.discard.Reads as discard-reads
use Rattle.plan_engine.proofs.plans.compile.Reads as compile-reads
use Rattle.plan_engine.proofs.planned.start.Reads as plan-start-reads
use Rattle.plan_engine.proofs.planned.run.Reads as plan-run-reads
use Rattle.plan_engine.proofs.planned.post.Reads as plan-post-reads
use Rattle.plan_engine.proofs.planned.discard.Reads as plan-discard-reads

-- the arguments are the same: compiling was done; one chart, the plan as compile left it, one widget, which is not yet started or the
-- chart's own
pub record SameArguments (k : Compiled) (compiled-chart left chart plan : List ℤ) (u w : State) : Type 0 where
  pub done : k.answer.number ≡ 0
  pub one_chart : chart ≡ compiled-chart
  pub its_plan : plan ≡ left
  pub one_widget : w ≡ u
  pub lived : Lived (chart_of compiled-chart) u

-- over any three contracts: compile's, a chart call's and a plan call's, with what the last two wrote
pub record Agrees {C D A X B Y R L : Type 0} (compiles : C → Compiled → D → Type 0) (by_chart : A → R → X → Type 0)
    (by_plan : B → R → Y → Type 0)
    (same : C → Compiled → D → A → B → Type 0) (lent : X → L) (lent' : Y → L) : Type 0 where
  pub agree : (c : C) (k : Compiled) (d : D) → compiles c k d → (a : A) (r : R) (x : X) → by_chart a r x → (b : B) (s : R) (y : Y)
      → by_plan b s y
      → same c k d a b → (r ≡ s) × (lent x ≡ lent' y)

-- ---- start and run, on traces of one length

abbrev Lengths : List ℤ → List ℤ → Type 0
Lengths t t₂ = length t₂ ≡ length t

pub starts : (κ κ₁ κ₂ : Lfts 2) → Agrees (compile-reads.Learnt κ) (start-reads.Learnt κ₁) (plan-start-reads.Learnt κ₂)
    (λ c k d a b. SameArguments k c.0.now d.1.0.now a.0.now b.0.now a.1.0 b.1.0
    × Lengths a.1.1.0.now b.1.1.0.now)
    (λ x. x.1.1.0.now) (λ y. y.1.1.0.now)
starts κ κ₁ κ₂ = record {
  agree = λ c k d p a r x q b s y o e.
      starts_agree p e.0.done e.0.lived e.1
      (subst (λ v. Started v a.1.0 a.1.1.0.now r x.1.1.0.now) e.0.one_chart q)
      (subst (λ n. PlanStarted n a.1.0 b.1.1.0.now s y.1.1.0.now) e.0.its_plan
      (subst (λ w. PlanStarted b.0.now w b.1.1.0.now s y.1.1.0.now) e.0.one_widget o));
}

pub runs : (κ κ₁ κ₂ : Lfts 2) → Agrees (compile-reads.Learnt κ) (run-reads.Learnt κ₁) (plan-run-reads.Learnt κ₂)
    (λ c k d a b. SameArguments k c.0.now d.1.0.now a.0.now b.0.now a.1.0 b.1.0
    × Lengths a.1.1.0.now b.1.1.0.now)
    (λ x. x.1.1.0.now) (λ y. y.1.1.0.now)
runs κ κ₁ κ₂ = record {
  agree = λ c k d p a r x q b s y o e.
      runs_agree p e.0.done e.0.lived e.1
      (subst (λ v. Ran v a.1.0 a.1.1.0.now r x.1.1.0.now) e.0.one_chart q)
      (subst (λ n. PlanRan n a.1.0 b.1.1.0.now s y.1.1.0.now) e.0.its_plan
      (subst (λ w. PlanRan b.0.now w b.1.1.0.now s y.1.1.0.now) e.0.one_widget o));
}

-- ---- post, of one event with one argument, and discard: nothing is lent

pub posts : (κ : Lfts 2) (κ₁ κ₂ : Lfts 1) → Agrees (compile-reads.Learnt κ) (post-reads.Learnt κ₁) (plan-post-reads.Learnt κ₂)
    (λ c k d a b. SameArguments k c.0.now d.1.0.now a.0.now b.0.now a.1.0 b.1.0
    × (b.1.1.0 ≡ a.1.1.0) × (b.1.1.1.0 ≡ a.1.1.1.0))
    (λ x. tt {0}) (λ y. tt {0})
posts κ κ₁ κ₂ = record {
  agree = λ c k d p a r x q b s y o e. (
    posts_agree p e.0.done e.0.lived
        (subst (λ v. Posted v a.1.0 a.1.1.0 a.1.1.1.0 r) e.0.one_chart q)
        (subst (λ i. PlanPosted d.1.0.now a.1.0 i a.1.1.1.0 s) e.1
        (subst (λ i. PlanPosted d.1.0.now a.1.0 b.1.1.0 i s) e.2
        (subst (λ n. PlanPosted n a.1.0 b.1.1.0 b.1.1.1.0 s) e.0.its_plan
        (subst (λ w. PlanPosted b.0.now w b.1.1.0 b.1.1.1.0 s) e.0.one_widget o)))),
    refl,
  );
}

pub discards : (κ : Lfts 2) (κ₁ κ₂ : Lfts 1) → Agrees (compile-reads.Learnt κ) (discard-reads.Learnt κ₁) (plan-discard-reads.Learnt κ₂)
    (λ c k d a b. SameArguments k c.0.now d.1.0.now a.0.now b.0.now a.1.0 b.1.0)
    (λ x. tt {0}) (λ y. tt {0})
discards κ κ₁ κ₂ = record {
  agree = λ c k d p a r x q b s y o e. (
    discards_agree p e.done e.lived
        (subst (λ v. Discarded v a.1.0 r) e.one_chart q)
        (subst (λ n. PlanDiscarded n a.1.0 s) e.its_plan (subst (λ w. PlanDiscarded b.0.now w s) e.one_widget o)),
    refl,
  );
}
