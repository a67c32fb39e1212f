-- Laws of a span by where its target leads: the scope is a state of the chart, and what lies below it is the span. Assumes nothing.
use Rattle.std.specs.Prelude.{Option, None, Some}
use mathlib.Core.Path.{◌≡◌, refl, sym, ap, ◌∙◌, subst}
use Prim.Native.Nat.{ℕ, suc, ◌+◌, ◌<◌}
use native.Mathlib.Omega.{arith}
use mathlib.Core.List.{List, ◌∷◌}
use lib.ListN.{length}
use lib.IntN.{ℤ}
use Rattle.meaning.specs.Chart.{Chart}
use Rattle.meaning.specs.declared.chart.Target.{Target}
use Rattle.meaning.specs.declared.chart.Kind.TheVariants.{O as kind_o}
use Rattle.meaning.specs.Tree.{kind_of, scope, span_of, descendants}
use Rattle.meaning.specs.Value.{chart_of}
use Rattle.laws.proofs.Scope.{ScopeFacts, scope_facts}
use Rattle.meaning.specs.Rules.{Ruled}
use Rattle.tree.proofs.Passing.{sound}
use Rattle.tree.specs.declared.ways.Goal.{Goal}
use Rattle.tree.specs.Aims.{aim_by, aimed_at, top_of}
use Rattle.tree.proofs.Aiming.{goes_by, stays_by, goal_facts}
use Rattle.choice.specs.declared.Span.{Span}
use Rattle.choice.specs.Span.{Spans, Spanned, Aims}
use Rattle.choice.proofs.Walk.{scope_spans, place_spans}

span_goes : (c : Chart) (s : ℕ) (g : Target) (goal : Goal) → aim_by g ≡ Some goal → span_of c s g
    ≡ descendants c (scope c s (aimed_at goal))
unfolding span_of
span_goes c s = goes_by (λ g goal. span_of c s g ≡ descendants c (scope c s (aimed_at goal))) (λ d. refl) (λ b. refl)

span_stays : (c : Chart) (s : ℕ) (g : Target) → aim_by g ≡ None → span_of c s g ≡ s ∷ descendants c s
unfolding span_of
span_stays c s = stays_by (λ g. span_of c s g ≡ s ∷ descendants c s) refl

module _ (v : List ℤ) (h : Ruled v) (s : ℕ) (g : Target) (a : Aims (chart_of v) s g) {aim : Option Goal} (q : aim ≡ aim_by g) where
  module _ {goal : Goal} (e : aim ≡ Some goal) {d top : ℕ} (o : d ≡ aimed_at goal) (p : top ≡ scope (chart_of v) s d) where
    goes : aim_by g ≡ Some goal
    goes = sym q ∙ e

    is_scope : top ≡ scope (chart_of v) s (aimed_at goal)
    is_scope = p ∙ ap (scope (chart_of v) s) o

    facts : ScopeFacts (chart_of v) s (aimed_at goal) (scope (chart_of v) s (aimed_at goal))
    facts =
        let f = goal_facts (chart_of v) s g goal goes a.1 in
        scope_facts (chart_of v) (sound v h) s (aimed_at goal) f.2 f.1

    pub top_inside : top < length (chart_of v).states
    top_inside = omega (arith, is_scope, facts.inside)

    pub goes_spanned : (w : Span) → w.top ≡ top → w.first ≡ top + 1 → w.end ≡ suc top + length (descendants (chart_of v) top)
        → Spanned (chart_of v) s g w
    goes_spanned w f l n = record {
      spans = subst (λ x. Spans x w) (ap (descendants (chart_of v)) is_scope ∙ sym (span_goes (chart_of v) s g goal goes))
          (scope_spans (chart_of v) (sound v h) top w top_inside n
          (subst (λ x. kind_of (chart_of v) x ≡ kind_o) (sym is_scope) facts.kind) l);
      top = f ∙ is_scope ∙ ap (top_of (chart_of v) s) (sym goes);
      below = n ∙ ap (λ x. suc x + length (descendants (chart_of v) x)) (sym f);
    }

  pub stays_spanned : aim ≡ None → (w : Span) → w.top ≡ s → w.first ≡ s → w.end ≡ suc s + length (descendants (chart_of v) s)
      → Spanned (chart_of v) s g w
  stays_spanned e w f l n = record {
    spans = subst (λ x. Spans x w) (sym (span_stays (chart_of v) s g (sym q ∙ e)))
        (place_spans (chart_of v) (sound v h) s w a.0 n l);
    top = f ∙ ap (top_of (chart_of v) s) (sym (sym q ∙ e));
    below = n ∙ ap (λ x. suc x + length (descendants (chart_of v) x)) (sym f);
  }
