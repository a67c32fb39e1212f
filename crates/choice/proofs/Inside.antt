-- A span lies within the states of its chart. Assumes nothing.
use mathlib.Core.Path.{◌≡◌, ap, ◌∙◌, subst}
use Prim.Native.Nat.{ℕ, zero, suc, ◌+◌, ◌-◌, ◌≤◌, ◌<◌}
use native.Mathlib.Omega.{arith}
use lib.ListN.{length}
use Rattle.meaning.specs.Lists.{from, has}
use Rattle.meaning.specs.Chart.{Chart}
use Rattle.meaning.specs.declared.chart.Target.{Target}
use Rattle.meaning.specs.declared.chart.Target.TheVariants.{To as to, History as history, InPlace as in_place}
use Rattle.meaning.specs.Tree.{all_states, ancestors, descendants, scope, span_of}
use Rattle.laws.proofs.Lists.{each_kept, each_range}
use Rattle.laws.specs.Facts.{Each, one_more}
use Rattle.choice.specs.declared.Span.{Span}
use Rattle.choice.specs.Span.{Spans}

last_in : (m a n : ℕ) → Each (λ x. x < m) (from a (suc n)) → a + n < m
unfolding from
last_in m a zero (one_more p ps) = omega arith
last_in m a (suc n) (one_more p ps) = omega (arith, last_in m (suc a) n ps)

below_in : (c : Chart) (s : ℕ) → Each (λ x. x < length c.states) (descendants c s)
unfolding descendants all_states
below_in c s =
    each_kept _ (λ d. has s (ancestors c d)) (from 0 (length c.states))
    (each_range 0 (length c.states) (length c.states) (omega arith))

span_in : (c : Chart) (s : ℕ) → s < length c.states → (t : Target) → Each (λ x. x < length c.states) (span_of c s t)
unfolding span_of
span_in c s l (to d) = below_in c (scope c s d)
span_in c s l (history b) = below_in c (scope c s b)
span_in c s l in_place = one_more {x = s} l (below_in c s)

pub span_ends : (c : Chart) (s : ℕ) → s < length c.states → (t : Target) (r : Span) → Spans (span_of c s t) r
    → r.end ≤ length c.states
span_ends c s l t r w =
    let z : r.end - r.first ≡ suc ((r.end - 1) - r.first) = omega (arith, w.some) in
    let y = last_in (length c.states) r.first ((r.end - 1) - r.first)
    (subst (Each (λ n. n < length c.states)) (w.is ∙ ap (from r.first) z) (span_in c s l t)) in
    omega (arith, w.some)
