-- What is known of a chart handed over as a value that passes the rules. Assumes nothing.
use Rattle.std.specs.Prelude.{None, Some}
use mathlib.Core.Path.{◌≡◌, refl, sym, ap, ◌∙◌}
use Prim.Native.Nat.{ℕ, suc, ◌+◌, ◌≤◌, ◌<◌}
use mathlib.Core.Bool.{Bool, true, false}
use mathlib.Core.List.{List}
use mathlib.Core.Option.{none}
use native.Mathlib.Omega.{arith}
use lib.IntN.{ℤ}
use lib.ListN.{length}
use Rattle.laws.proofs.Sound.{SoundChart, sound_chart}
use Rattle.meaning.specs.Chart.{Chart}
use Rattle.meaning.specs.Lists.{has}
use Rattle.meaning.specs.Tree.{parent_of, kind_of, is_o, ancestors, descendants, scope}
use Rattle.meaning.specs.declared.chart.Kind.{Kind}
use Rattle.meaning.specs.Rules.{after_rule_0, failing_rule, failing_rule_of}
use Rattle.meaning.specs.Value.{chart_of, rule_0}
use Rattle.meaning.specs.Rules.{Ruled}
use Rattle.tree.specs.Courses.{path_child}
use Rattle.tree.proofs.Up.{parent_falls, path_none, path_here, path_up, scope_root, scope_here, scope_up_kind, scope_up}
use Rattle.tree.proofs.On.{end_here, end_more, end_last}

pub passes : (b : Bool) (c : Chart) → after_rule_0 b c ≡ none → (b ≡ true) × (failing_rule c ≡ none)
passes true c e = (refl, e)
passes false c e = let z : ◌≡◌ {A = ℕ} 0 1 = cc in absurd (omega arith)

pub rules_passed : (v : List ℤ) → Ruled v → (rule_0 v ≡ true) × (failing_rule (chart_of v) ≡ none)
unfolding failing_rule_of
rules_passed v r = passes (rule_0 v) (chart_of v) r

-- the plain facts of the rules
pub sound : (v : List ℤ) → Ruled v → SoundChart (chart_of v)
sound v r = sound_chart (chart_of v) (rules_passed v r).1

-- ---- one turn of each walk: v is the lent chart, and each law is what its loop owes there

module _ (v : List ℤ) (r : Ruled v) where
  pub up_falls : (x : ℕ) → 0 < x → (p : ℕ) → p ≡ parent_of (chart_of v) x → p < x
  up_falls x h p e = omega (arith, parent_falls (chart_of v) (sound v r).ordered x h)

  module _ (s t x : ℕ) (inv : path_child (chart_of v) s x ≡ path_child (chart_of v) s t) where
    pub path_found : 0 < x → (p : ℕ) → p ≡ parent_of (chart_of v) x → p ≡ s → Some x ≡ path_child (chart_of v) s t
    path_found h p e q = sym (path_here (chart_of v) (sound v r).ordered s x h (sym e ∙ q)) ∙ inv

    pub path_on : 0 < x → (p : ℕ) → p ≡ parent_of (chart_of v) x → (p ≡ s → ⊥) → path_child (chart_of v) s p ≡ path_child (chart_of v) s t
    path_on h p e n = ap (path_child (chart_of v) s) e ∙ path_up (chart_of v) (sound v r).ordered s x h (λ q. n (e ∙ q)) ∙ inv

    pub path_end : x ≤ 0 → None ≡ path_child (chart_of v) s t
    path_end h = let z : x ≡ 0 = omega arith in sym (ap (path_child (chart_of v) s) z ∙ path_none (chart_of v) (sound v r).ordered s) ∙ inv

  module _ (s t x : ℕ) (inv : scope (chart_of v) x t ≡ scope (chart_of v) s t) where
    pub scope_found : 0 < x → (p : ℕ) → p ≡ parent_of (chart_of v) x
        → (k : Kind) → k ≡ kind_of (chart_of v) p → (b d : Bool) → b ≡ is_o k → b ≡ true
        → d ≡ has p (ancestors (chart_of v) t) → d ≡ true → p ≡ scope (chart_of v) s t
    scope_found h p e k f b d g bt i dt =
        let o : is_o (kind_of (chart_of v) (parent_of (chart_of v) x)) ≡ true = rw (← e, ← f, ← g) bt in
        let a : has (parent_of (chart_of v) x) (ancestors (chart_of v) t) ≡ true = rw (← e, ← i) dt in
        e ∙ sym (scope_here (chart_of v) (sound v r).ordered x t h o a) ∙ inv

    pub scope_on_kind : 0 < x → (p : ℕ) → p ≡ parent_of (chart_of v) x
        → (k : Kind) → k ≡ kind_of (chart_of v) p → (b : Bool) → b ≡ is_o k → b ≡ false
        → scope (chart_of v) p t ≡ scope (chart_of v) s t
    scope_on_kind h p e k f b g bt =
        let o : is_o (kind_of (chart_of v) (parent_of (chart_of v) x)) ≡ false = rw (← e, ← f, ← g) bt in
        ap (λ y. scope (chart_of v) y t) e ∙ scope_up_kind (chart_of v) (sound v r).ordered x t h o ∙ inv

    pub scope_on : 0 < x → (p : ℕ) → p ≡ parent_of (chart_of v) x
        → (k : Kind) → k ≡ kind_of (chart_of v) p → (b d : Bool) → b ≡ is_o k → b ≡ true
        → d ≡ has p (ancestors (chart_of v) t) → d ≡ false → scope (chart_of v) p t ≡ scope (chart_of v) s t
    scope_on h p e k f b d g bt i dt =
        let o : is_o (kind_of (chart_of v) (parent_of (chart_of v) x)) ≡ true = rw (← e, ← f, ← g) bt in
        let a : has (parent_of (chart_of v) x) (ancestors (chart_of v) t) ≡ false = rw (← e, ← i) dt in
        ap (λ y. scope (chart_of v) y t) e ∙ scope_up (chart_of v) (sound v r).ordered x t h o a ∙ inv

    pub scope_end : x ≤ 0 → 0 ≡ scope (chart_of v) s t
    scope_end h = let z : x ≡ 0 = omega arith in
        sym (ap (λ y. scope (chart_of v) y t) z ∙ scope_root (chart_of v) (sound v r).ordered t) ∙ inv

  module _ (s : ℕ) (h : s < length (chart_of v).states) (d : ℕ) (i : (s < d) × (d ≤ suc s + length (descendants (chart_of v) s))) where
    pub end_found : (p : ℕ) → p ≡ parent_of (chart_of v) d → p < s → d ≡ suc s + length (descendants (chart_of v) s)
    end_found p e l = end_here (chart_of v) (sound v r).ordered s h d i.0 i.1 (omega arith)

    pub end_on : (n : ℕ) → n ≡ length (chart_of v).states → d < n
        → (p : ℕ) → p ≡ parent_of (chart_of v) d → s ≤ p → (s < d + 1) × (d + 1 ≤ suc s + length (descendants (chart_of v) s))
    end_on n f g p e l =
        (omega arith, omega (arith, end_more (chart_of v) (sound v r).ordered s h d i.0 (omega arith) i.1 (omega arith)))

    pub end_all : (n : ℕ) → n ≡ length (chart_of v).states → n ≤ d → d ≤ n → n ≡ suc s + length (descendants (chart_of v) s)
    end_all n f g l = omega (arith, end_last (chart_of v) (sound v r).ordered s h d i.1 (omega arith))
