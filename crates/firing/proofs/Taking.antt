-- The laws by which `move_to` and `fire` meet their promises. Assumes nothing.
use Rattle.std.specs.Prelude.{Option, None, Some, Result, Ok}
use mathlib.Core.Path.{◌≡◌, refl, sym, ap, subst, ◌∙◌}
use native.Mathlib.Omega.{arith}
use Prim.Native.Nat.{ℕ, ◌<◌}
use mathlib.Core.List.{List}
use lib.ListN.{length}
use lib.IntN.{ℤ}
use Rattle.laws.specs.Facts.{TargetFacts}
use Rattle.laws.proofs.Scope.{scope_facts}
use Rattle.chart_rows.proofs.Rows.{states_most}
use Rattle.meaning.specs.Chart.{Chart}
use Rattle.meaning.specs.declared.chart.Owner.TheVariants.{TransitionOf as transition_of}
use Rattle.meaning.specs.declared.chart.Target.{Target}
use Rattle.meaning.specs.declared.chart.TransRow.{TransRow}
use Rattle.meaning.specs.Effects.{perform_all}
use Rattle.meaning.specs.Reaction.{fire, fire_to, leave_all}
use Rattle.meaning.specs.Steps.{Step}
use Rattle.meaning.specs.Tree.{descendants, scope, trans_row}
use Rattle.meaning.specs.Value.{chart_of}
use Rattle.meaning.specs.Widget.{Ctx, emit}
use Rattle.meaning.specs.declared.Entry.TheVariants.{Taken as taken}
use Rattle.meaning.specs.Rules.{Ruled}
use Rattle.tree.proofs.Passing.{sound}
use Rattle.meaning.specs.declared.State.{State}
use Rattle.meaning.specs.declared.answers.Refusal.{Refusal}
use Rattle.widget.specs.View.{Did}
use Rattle.widget.proofs.Going.{then_on}
use Rattle.tree.specs.Aims.{aim_by, aimed_at, top_of, Found}
use Rattle.tree.specs.Courses.{Inside, Owned, Led}
use Rattle.tree.specs.declared.ways.Goal.{Goal}
use Rattle.tree.proofs.Aiming.{goes_by, stays_by, goal_facts, goal_bound}
use Rattle.firing.specs.Moving.{moving}
use Rattle.firing.proofs.Leading.{acts_led, leave_all_led, led_after}

-- ---- after leaving, and after the transition's actions, the slots still lead to children

module _ (w : List ℤ) (f : Ruled w) (arg : ℤ) {u : State} {t : List ℤ} {at m : ℕ} {u₁ : State} {t₁ : List ℤ} where
  pub left_led : (s : ℕ) → Did (leave_all (chart_of w) arg (descendants (chart_of w) s)) u t at (Ok m) u₁ t₁
      → Led (chart_of w) u.slots → Led (chart_of w) u₁.slots
  left_led s d l = led_after (chart_of w) (leave_all_led (chart_of w) (sound w f) (states_most w) arg s) d l

  pub acted_led : (n : ℕ) → Did (perform_all (chart_of w) arg (transition_of n)) u t at (Ok m) u₁ t₁
      → Led (chart_of w) u.slots → Led (chart_of w) u₁.slots
  acted_led n d l = led_after (chart_of w) (acts_led (chart_of w) (sound w f) (states_most w) arg (transition_of n)) d l

-- ---- a transition that leads somewhere: what choosing found out of it is its scope

fire_goes : (c : Chart) (arg : ℤ) (n s : ℕ) (g : Target) (goal : Goal) → aim_by g ≡ Some goal
    → fire_to c arg n s g ≡ moving c arg n goal (scope c s (aimed_at goal))
unfolding fire_to moving
fire_goes c arg n s = goes_by (λ g goal. fire_to c arg n s g ≡ moving c arg n goal (scope c s (aimed_at goal))) (λ d. refl) (λ b. refl)

fire_stays : (c : Chart) (arg : ℤ) (n s : ℕ) (g : Target) → aim_by g ≡ None → fire_to c arg n s g ≡ perform_all c arg (transition_of n)
unfolding fire_to
fire_stays c arg n s = stays_by (λ g. fire_to c arg n s g ≡ perform_all c arg (transition_of n)) refl

module _ (c : Chart) (n : ℕ) (row : TransRow) (e : row ≡ trans_row c n) {aim : Option Goal} (q : aim ≡ aim_by row.target)
    {goal : Goal} (o : aim ≡ Some goal) {top end : ℕ} (h : Found c n top end) where
  is_scope : top ≡ scope c row.source (aimed_at goal)
  is_scope = h.is ∙ ap (λ x. top_of c x.source (aim_by x.target)) (sym e) ∙ ap (top_of c row.source) (sym q ∙ o)

module _ (w : List ℤ) (f : Ruled w) (n : ℕ) (l : n < length (chart_of w).transitions) (row : TransRow) (e : row ≡ trans_row (chart_of w) n)
    {aim : Option Goal} (q : aim ≡ aim_by row.target) {goal : Goal} (o : aim ≡ Some goal) where
  facts : TargetFacts (chart_of w) row.source row.target
  facts = subst (λ y. TargetFacts (chart_of w) y.source y.target) (sym e) ((sound w f).transitions n l).target

  pub goes_bound : Inside (chart_of w) goal × Owned (chart_of w) goal
  goes_bound = goal_bound (chart_of w) row.source row.target goal (sym q ∙ o) facts

  pub goes_inside : {top end : ℕ} → Found (chart_of w) n top end → top < length (chart_of w).states
  goes_inside h =
      let g = goal_facts (chart_of w) row.source row.target goal (sym q ∙ o) facts in
      omega (
        arith,
        is_scope (chart_of w) n row e q o h,
        (scope_facts (chart_of w) (sound w f) row.source (aimed_at goal) g.2
            g.1).inside,
      )

-- ---- firing

module _ (c : Chart) (arg : ℤ) (n : ℕ) {u : State} {t : List ℤ} {at m : ℕ} {t₁ : List ℤ} (w : Did (emit (taken n)) u t at (Ok m) u t₁)
    (row : TransRow) (e : row ≡ trans_row c n) {aim : Option Goal} (q : aim ≡ aim_by row.target) where
  fired_as : {E : Step Ctx} {r : Result ℕ Refusal} {u₂ : State} {t₂ : List ℤ} → E ≡ fire_to c arg n row.source row.target
      → Did E u t₁ m r u₂ t₂ → Did (fire c arg n) u t at r u₂ t₂
  unfolding fire
  fired_as {r = r} {u₂ = u₂} {t₂ = t₂} p d = then_on w
      (subst (λ F. Did F u t₁ m r u₂ t₂) (p ∙ ap (λ x. fire_to c arg n x.source x.target) e) d)

  pub fired_goes : {goal : Goal} {r : Result ℕ Refusal} {u₂ : State} {t₂ : List ℤ} → aim ≡ Some goal → {top end : ℕ} → Found c n top end
      → Did (moving c arg n goal top) u t₁ m r u₂ t₂ → Did (fire c arg n) u t at r u₂ t₂
  fired_goes {goal} o h d = fired_as (ap (moving c arg n goal) (is_scope c n row e q o h)
      ∙ sym (fire_goes c arg n row.source row.target goal (sym q ∙ o))) d

  pub fired_stays : {r : Result ℕ Refusal} {u₂ : State} {t₂ : List ℤ} → aim ≡ None
      → Did (perform_all c arg (transition_of n)) u t₁ m r u₂ t₂ → Did (fire c arg n) u t at r u₂ t₂
  fired_stays o d = fired_as (sym (fire_stays c arg n row.source row.target (sym q ∙ o))) d
