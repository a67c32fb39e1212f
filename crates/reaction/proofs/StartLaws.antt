-- A start: the fresh widget, and what is owed after the root and after its defaults; laws over plain variables. Assumes nothing.
use Rattle.std.specs.Prelude.{Result}
use mathlib.Core.Path.{◌≡◌, refl, sym, ap, ◌∙◌, subst}
use Prim.Native.Nat.{ℕ, zero, suc, ◌+◌, ◌-◌, ◌≤◌, ◌<◌}
use native.Mathlib.Omega.{arith}
use native.Mathlib.Nat.{sub-zero}
use mathlib.Core.List.{List, ◌++◌, map}
use lib.ListN.{length, take, drop, replicate, set, length-map, length-replicate}
use lib.Seq.{take_all}
use lib.IntN.{ℤ, pos}
use Rattle.sizes.specs.Sizes.{VARIABLES}
use Rattle.queue.proofs.Copy.{copied, copied_suc}
use Rattle.meaning.specs.declared.State.{State}
use Rattle.meaning.specs.declared.Called.{Called}
use Rattle.meaning.specs.declared.chart.VarRow.{VarRow}
use Rattle.meaning.specs.Lists.{padded}
use Rattle.meaning.specs.Steps.{each}
use Rattle.meaning.specs.Chart.{Chart, no_var}
use Rattle.meaning.specs.Tree.{var_row}
use Rattle.meaning.specs.Value.{chart_of}
use Rattle.meaning.specs.Effects.{enter}
use Rattle.meaning.specs.Entry.{state_of, all_below, by_defaults, visit}
use Rattle.meaning.specs.Calls.{fresh, start_steps, start, outcome}
use Rattle.laws.proofs.Stays.{Stays, each_stays}
use Rattle.laws.proofs.Value.{get_d_map}
use Rattle.laws.proofs.Ways.{defaults_sound}
use Rattle.meaning.specs.Rules.{Ruled}
use Rattle.tree.proofs.Passing.{sound}
use Rattle.meaning.specs.declared.answers.Refusal.{Refusal}
use Rattle.widget.specs.View.{went, Did}
use Rattle.widget.proofs.Ending.{begins}
use Rattle.invariants.proofs.Good.{enter_good, visit_good}
use Rattle.invariants.specs.Good.{Good}
use Rattle.invariants.proofs.GoodReaction.{below_inside}
use Rattle.invariants.proofs.Own.{fresh_good}
use Rattle.reaction.specs.Ready.{Ready}
use Rattle.reaction.proofs.Going.{sized}
use Rattle.ends.proofs.Ending.{Ends, ends_steps}

-- ---- the first values

abbrev pub firsts : List VarRow → List ℤ
firsts vs = map (λ r. r.first) vs

abbrev pub zeros : List ℤ
zeros = replicate VARIABLES (pos 0)

pub filled_more : (vs : List VarRow) (now : List ℤ) (v : ℕ) (x : ℤ) → now ≡ copied zeros (firsts vs) v → v < length vs
    → length vs ≤ VARIABLES → x ≡ (var_row vs v).first
    → set now v x ≡ copied zeros (firsts vs) (v + 1)
unfolding var_row
filled_more vs now v x e l m q =
    let a : v < length zeros = omega (arith, length-replicate VARIABLES (pos 0)) in
    let b : v < length (firsts vs) = omega (arith, length-map vs (λ (r : VarRow). r.first)) in
    rw (e, q ∙ sym (get_d_map (λ (r : VarRow). r.first) vs v (pos 0) no_var l)) (copied_suc zeros (firsts vs) v (pos 0) a b)

drop_zeros : (n m : ℕ) → drop n (replicate m (pos 0)) ≡ replicate (m - n) (pos 0)
drop_zeros zero m = ap (λ k. replicate k (pos 0)) (sym (sub-zero m))
drop_zeros (suc n) zero = let q : 0 - suc n ≡ 0 = omega arith in rw q
drop_zeros (suc n) (suc m) = let q : suc m - suc n ≡ m - n = omega arith in rw q (drop_zeros n m)

pub filled_all : (c : Chart) (now : List ℤ) (v : ℕ) → now ≡ copied zeros (firsts c.vars) v → v ≡ length c.vars → now ≡ (fresh c).vars
unfolding fresh padded
filled_all c now v e q =
    let n : length (firsts c.vars) ≡ length c.vars = length-map c.vars (λ (r : VarRow). r.first) in
    e ∙ ap (λ k. take k (firsts c.vars) ++ drop k zeros) (q ∙ sym n)
    ∙ rw (take_all (length (firsts c.vars)) (firsts c.vars) (omega arith), drop_zeros (length (firsts c.vars)) VARIABLES)

-- ---- after the root, and after its defaults

module _ (v : List ℤ) (h : Ruled v) where
  pub root_inside : 0 < length (chart_of v).states
  root_inside = omega (arith, (sound v h).two)

  pub root_good : Stays (Good (chart_of v)) (enter (chart_of v) (pos 0) 0)
  root_good = enter_good (chart_of v) (sound v h) (sized v h) (pos 0) 0 root_inside

  pub defaults_good : Stays (Good (chart_of v)) (each (visit (chart_of v) (pos 0)) (all_below (chart_of v) by_defaults 0))
  defaults_good = each_stays (Good (chart_of v)) (visit (chart_of v) (pos 0))
      (λ x. state_of x < length (chart_of v).states) (visit_good (chart_of v) (sound v h) (sized v h) (pos 0)) (all_below
      (chart_of v) by_defaults 0)
      (below_inside (chart_of v) (sound v h) by_defaults (defaults_sound (chart_of v) (sound v h)) 0 root_inside)

-- ---- the fresh widget

module _ (v : List ℤ) (h : Ruled v) where
  pub fresh_ready : (t : List ℤ) → Ready (chart_of v) (fresh (chart_of v)) t 0
  fresh_ready t = record {
    good = subst (Good (chart_of v)) (sym (begins (fresh (chart_of v)) t)) (fresh_good (chart_of v) (sound v h) (sized v h) (length t));
    fits = omega arith;
  }

  pub start_ends : (u : State) (t : List ℤ) {w : Result ℕ Refusal} {u₁ : State} {t₁ : List ℤ} (r : Called) (t₂ : List ℤ)
      → Did (start_steps (chart_of v)) (fresh (chart_of v)) t 0 w u₁ t₁
      → Ends (outcome u (went w u₁ t₁)) t₁ r t₂ → Ends (start (chart_of v) u (length t)) t r t₂
  unfolding start
  start_ends u t r t₂ g f = ends_steps u _ r t₂ g refl f
