-- A start: the first values, the fresh widget as it is lent, and the start block before null steps; laws over plain variables.
-- Assumes nothing.
use mathlib.Core.Path.{◌≡◌, sym, ap, ◌∙◌, subst}
use Prim.Native.Nat.{ℕ, zero, suc, ◌+◌, ◌-◌, ◌≤◌, ◌<◌}
use native.Mathlib.Omega.{arith}
use native.Mathlib.Nat.{sub-zero}
use mathlib.Core.Bool.{true, false}
use mathlib.Core.List.{List, ◌++◌, map}
use lib.ListN.{length, take, drop, replicate, set, length-map, length-replicate}
use lib.Seq.{take_all}
use lib.IntN.{ℤ, pos, negsuc}
use Rattle.sizes.specs.Sizes.{STATES, VARIABLES}
use Rattle.queue.specs.Queue.{empty_queue}
use Rattle.queue.proofs.Copy.{copied, copied_suc}
use Rattle.meaning.specs.declared.State.{State}
use Rattle.meaning.specs.declared.Called.{Called}
use Rattle.meaning.specs.declared.plan.Counts.{Counts}
use Rattle.meaning.specs.declared.chart.VarRow.{VarRow}
use Rattle.meaning.specs.Lists.{padded}
use Rattle.meaning.specs.Chart.{no_var}
use Rattle.meaning.specs.Tree.{var_row}
use Rattle.meaning.specs.Plan.{Plan}
use Rattle.meaning.specs.Widget.{begin}
use Rattle.meaning.specs.Calls.{fresh_by, outcome}
use Rattle.meaning.specs.Machine.{run_block, plan_settle, plan_start_steps, plan_start}
use Rattle.meaning.specs.WellFormed.{plan_by}
use Rattle.laws.proofs.Value.{get_d_map}
use Rattle.std.specs.Prelude.{Result, Ok, Err}
use Rattle.meaning.specs.declared.answers.Refusal.{Refusal}
use Rattle.queue.specs.declared.Queue.{Queue}
use Rattle.widget.specs.View.{went, Did}
use Rattle.widget.proofs.Going as going
use Rattle.plan_choice.specs.Heads.{Examined}
use Rattle.plan_code.specs.Code.{block_of}
use Rattle.ends.proofs.Ending.{Ends, ends_steps}

-- ---- the first values

abbrev pub firsts : List VarRow → List ℤ
firsts vs = map (λ r. r.first) vs

abbrev pub zeros : List ℤ
zeros = replicate VARIABLES (pos 0)

pub filled_more : (vs : List VarRow) (now : List ℤ) (v : ℕ) (x : ℤ) → now ≡ copied zeros (firsts vs) v → v < length vs
    → length vs ≤ VARIABLES → x ≡ (var_row vs v).first
    → set now v x ≡ copied zeros (firsts vs) (v + 1)
unfolding var_row
filled_more vs now v x e l m q =
    let a : v < length zeros = omega (arith, length-replicate VARIABLES (pos 0)) in
    let b : v < length (firsts vs) = omega (arith, length-map vs (λ (r : VarRow). r.first)) in
    rw (e, q ∙ sym (get_d_map (λ (r : VarRow). r.first) vs v (pos 0) no_var l)) (copied_suc zeros (firsts vs) v (pos 0) a b)

drop_zeros : (n m : ℕ) → drop n (replicate m (pos 0)) ≡ replicate (m - n) (pos 0)
drop_zeros zero m = ap (λ k. replicate k (pos 0)) (sym (sub-zero m))
drop_zeros (suc n) zero = let q : 0 - suc n ≡ 0 = omega arith in rw q
drop_zeros (suc n) (suc m) = let q : suc m - suc n ≡ m - n = omega arith in rw q (drop_zeros n m)

pub filled_all : (vs : List VarRow) (now : List ℤ) (v : ℕ) → now ≡ copied zeros (firsts vs) v → v ≡ length vs → now ≡ (fresh_by vs).vars
unfolding fresh_by padded
filled_all vs now v e q =
    let n : length (firsts vs) ≡ length vs = length-map vs (λ (r : VarRow). r.first) in
    e ∙ ap (λ k. take k (firsts vs) ++ drop k zeros) (q ∙ sym n)
    ∙ rw (take_all (length (firsts vs)) (firsts vs) (omega arith), drop_zeros (length (firsts vs)) VARIABLES)

-- ---- the start block, then null steps

-- the start block of a plan that was examined
pub begun : (ns : List ℤ) {k : Counts} → Examined ns k → {u : State} {t : List ℤ} {w : Result ℕ Refusal} {u₁ : State} {t₁ : List ℤ}
    → Did (block_of ns (pos 0) 0 k.start) u t 0 w u₁ t₁
    → Did (run_block (plan_by ns).vars (pos 0) (take (plan_by ns).start_length (plan_by ns).code)) u t 0 w u₁ t₁
unfolding plan_by
begun ns x {u} {t} {w} {u₁} {t₁} d =
    subst (λ c. Did (run_block (plan_by ns).vars (pos 0) (take c.start (plan_by ns).code)) u t 0 w u₁ t₁) x.counted d

module _ (ns : List ℤ) {k : Counts} (x : Examined ns k) {u : State} {t : List ℤ} {u₁ : State} {t₁ : List ℤ} where
  pub begin_stop : {e : Refusal} → Did (block_of ns (pos 0) 0 k.start) u t 0 (Err e) u₁ t₁
      → Did (plan_start_steps (plan_by ns)) u t 0 (Err e) u₁ t₁
  unfolding plan_start_steps
  begin_stop d = going.then_stop _ (begun ns x d)

  pub begin_on : {n : ℕ} → Did (block_of ns (pos 0) 0 k.start) u t 0 (Ok n) u₁ t₁
      → {r : Result ℕ Refusal} {u₂ : State} {t₂ : List ℤ} → Did (plan_settle (plan_by ns)) u₁ t₁ n r u₂ t₂
      → Did (plan_start_steps (plan_by ns)) u t 0 r u₂ t₂
  unfolding plan_start_steps
  begin_on d g = going.then_on (begun ns x d) g

-- ---- the fresh widget

pub fresh_is : (vs : List VarRow) {xs : List ℤ} {q : Queue} → xs ≡ (fresh_by vs).vars → q ≡ empty_queue
    → record { started = true; active = replicate STATES false; slots = replicate STATES (negsuc 0); vars = xs; queue = q } ≡ fresh_by vs
unfolding fresh_by
fresh_is vs e f = rw (e, f)

pub start_ends : (p : Plan) (u v : State) (t : List ℤ) {w : Result ℕ Refusal} {v₁ : State} {t₁ : List ℤ} (r : Called) (t₂ : List ℤ)
    → v ≡ fresh_by p.vars → Did (plan_start_steps p) v t 0 w v₁ t₁
    → Ends (outcome u (went w v₁ t₁)) t₁ r t₂ → Ends (plan_start p u (length t)) t r t₂
unfolding plan_start
start_ends p u v t r t₂ h g f =
    ends_steps u (plan_start p u (length t)) r t₂ g (ap (λ y. outcome u (plan_start_steps p (begin y (length t)))) (sym h)) f
