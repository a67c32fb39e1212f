-- Two promises on the same arguments, one over a chart and one over the plan that compiling it left, allow the same results: from demand 3
-- (crate agreement), call by call. Assumes nothing.
use mathlib.Core.Path.{◌∙◌, ◌≡◌, ap, refl, subst, sym}
use Prim.Native.Nat.{ℕ}
use mathlib.Core.List.{List}
use lib.IntN.{ℤ}
use lib.ListN.{length}
use Rattle.agreement.proofs.CompiledCalls.{one_call}
use Rattle.agreement.specs.PlanCalls.{machine_make}
use Rattle.invariants.specs.CallLists.{Call, make_of, to_discard, to_post, to_run, to_start}
use Rattle.invariants.proofs.CallLists.{Lived}
use Rattle.meaning.specs.Calls.{Outcome, called, lent, start_of}
use Rattle.meaning.specs.Compile.{compile_of, compiled, plan_lent}
use Rattle.meaning.specs.Text.{answer_of}
use Rattle.meaning.specs.Value.{chart_of}
use Rattle.meaning.specs.declared.Called.{Called}
use Rattle.meaning.specs.declared.State.{State}
use Rattle.meaning.specs.declared.plan.Compiled.{Compiled}
use Rattle.promises.specs.Promises.{Compiles, Discarded, PlanDiscarded, PlanPosted, PlanRan, PlanStarted, Posted, Ran, Started}

-- what compiling promises, where it is done, makes each call over the slice it left the call over the chart
module _ {v plan ns : List ℤ} {k : Compiled} (compiles : Compiles v plan k ns) (done : k.answer.number ≡ 0) {u : State}
    (l : Lived (chart_of v) u) where
  number_0 : (answer_of (compile_of v (length plan))).number ≡ 0
  unfolding compiled
  number_0 = sym (ap (λ c. c.answer.number) compiles.result) ∙ done

  same_call : (x : Call) → machine_make ns x u ≡ make_of v x u
  same_call x = ap (λ p. machine_make p x u) compiles.lent ∙ one_call v (length plan) number_0 x u l

  pub starts_agree : {t t₂ : List ℤ} {r s : Called} {a b : List ℤ} → length t₂ ≡ length t → Started v u t r a → PlanStarted ns u t₂ s b
      → (r ≡ s) × (a ≡ b)
  unfolding machine_make make_of
  starts_agree {t} {t₂} e p q =
      let o = same_call (to_start (length t)) in (
        p.result ∙ sym (q.result ∙ ap (λ n. called (machine_make ns (to_start n) u)) e ∙ ap called o),
        p.lent ∙ sym (q.lent ∙ ap (λ n. lent n (machine_make ns (to_start n) u)) e ∙ ap (lent (length t)) o),
      )

  pub runs_agree : {t t₂ : List ℤ} {r s : Called} {a b : List ℤ} → length t₂ ≡ length t → Ran v u t r a → PlanRan ns u t₂ s b
      → (r ≡ s) × (a ≡ b)
  unfolding machine_make make_of
  runs_agree {t} {t₂} e p q =
      let o = same_call (to_run (length t)) in (
        p.result ∙ sym (q.result ∙ ap (λ n. called (machine_make ns (to_run n) u)) e ∙ ap called o),
        p.lent ∙ sym (q.lent ∙ ap (λ n. lent n (machine_make ns (to_run n) u)) e ∙ ap (lent (length t)) o),
      )

  pub posts_agree : {x y : ℤ} {r s : Called} → Posted v u x y r → PlanPosted ns u x y s → r ≡ s
  unfolding machine_make make_of
  posts_agree {x} {y} p q = p.result ∙ sym (q.result ∙ ap called (same_call (to_post x y)))

  pub discards_agree : {r s : Called} → Discarded v u r → PlanDiscarded ns u s → r ≡ s
  unfolding machine_make make_of
  discards_agree p q = p.result ∙ sym (q.result ∙ ap called (same_call to_discard))
