-- The span of a transition of a chart that passes the rules (01, "Span"): a range of states that is never empty; its ends are states, the
-- first not past the last. In the order: ranges and their ends; the span as a range; its ends. Assumes nothing.
use mathlib.Core.Path.{◌∙◌, ◌≡◌, ap, refl, subst, sym}
use Prim.Native.Nat.{◌+◌, ◌<◌, ◌≤◌, suc, zero, ℕ}
use native.Mathlib.Omega.{arith}
use mathlib.Core.Bool.{false, false≢true}
use mathlib.Core.List.{List, [], ◌∷◌}
use lib.ListN.{length}
use Rattle.laws.proofs.Lists.{every_kept}
use Rattle.laws.specs.Facts.{Each, TargetFacts, Under, one_more}
use Rattle.laws.proofs.Scope.{scope_facts}
use Rattle.laws.proofs.Sound.{SoundChart}
use Rattle.laws.proofs.Tree.{under_has}
use Rattle.laws.proofs.Ways.{descendants_range}
use Rattle.meaning.specs.Chart.{Chart}
use Rattle.meaning.specs.Compile.{first_of, last_of}
use Rattle.meaning.specs.Lists.{every, from, has}
use Rattle.meaning.specs.Tree.{all_states, ancestors, descendants, scope, span, span_of, trans_row}
use Rattle.meaning.specs.declared.chart.Target.{Target}
use Rattle.meaning.specs.declared.chart.Target.TheVariants.{History as history, InPlace as in_place, To as to}
use Rattle.plan_laws.proofs.Below.{states_each}

-- ---- ranges

-- a list is a range that is not empty
pub record Range (l : List ℕ) : Type 0 where
  pub first : ℕ
  pub more : ℕ
  pub is : l ≡ from first (suc more)

pub first_of_range : (a n : ℕ) → first_of (from a (suc n)) ≡ a
unfolding first_of from
first_of_range a n = refl

pub last_of_range : (a n : ℕ) → last_of (from a (suc n)) ≡ a + n
unfolding last_of from
last_of_range a zero = omega arith
last_of_range a (suc n) = last_of_range (suc a) n ∙ omega arith

last_each : (P : ℕ → Type 0) (x : ℕ) (xs : List ℕ) → Each P (x ∷ xs) → P (last_of (x ∷ xs))
unfolding last_of
last_each P x [] (one_more p ps) = p
last_each P x (y ∷ ys) (one_more p ps) = last_each P y ys ps

pub record SpanFits (m : ℕ) (xs : List ℕ) : Type 0 where
  pub first : first_of xs < m
  pub last : last_of xs < m
  pub in_order : first_of xs ≤ last_of xs

range_fits : (m a n : ℕ) → Each (λ x. x < m) (from a (suc n)) → SpanFits m (from a (suc n))
unfolding from first_of
range_fits m a n f = record {
  first = first_each f;
  last = last_each (λ x. x < m) a (from (suc a) n) f;
  in_order = omega
      (arith, last_of_range a n);
}
  where
    first_each : Each (λ x. x < m) (a ∷ from (suc a) n) → a < m
    first_each (one_more p ps) = p

module _ (c : Chart) (h : SoundChart c) where
  -- ---- the span as a range

  -- a state that has a proper descendant
  below_range : (s d : ℕ) → s < length c.states → d < length c.states → Under c s d → Range (descendants c s)
  unfolding descendants all_states every from
  below_range s d l m u = go (length (descendants c s)) (descendants_range c h s l)
    where
      empty_not : descendants c s ≡ [] → ⊥
      empty_not e = false≢true (every_kept (λ x. false) (λ x. has s (ancestors c x)) 0 (length c.states) (ap (every (λ x. false)) e) d
          (omega arith) (omega arith) (under_has c h.ordered s d u))

      go : (k : ℕ) → descendants c s ≡ from (suc s) k → Range (descendants c s)
      go zero e = absurd (empty_not e)
      go (suc k) e = record { first = suc s; more = k; is = e }

  -- the scope is a proper ancestor of the source
  span_of_range : (s : ℕ) (x : Target) → s < length c.states → TargetFacts c s x → Range (span_of c s x)
  unfolding span_of from
  span_of_range s (to d) l f =
      let g = scope_facts c h s d f.2 f.1 in below_range (scope c s d) s g.inside l g.above_source
  span_of_range s (history b) l f =
      let g = scope_facts c h s b f.3 f.1 in below_range (scope c s b) s g.inside l g.above_source
  span_of_range s in_place l f =
      record { first = s; more = length (descendants c s); is = ap (λ r. s ∷ r) (descendants_range c h s l) }

  pub span_range : (t : ℕ) → t < length c.transitions → Range (span c t)
  unfolding span
  span_range t l =
      let f = h.transitions t l in span_of_range (trans_row c t).source (trans_row c t).target f.source f.target

  -- ---- its ends

  span_of_each : (s : ℕ) (x : Target) → s < length c.states → TargetFacts c s x → Each (λ y. y < length c.states) (span_of c s x)
  unfolding span_of
  span_of_each s (to d) l f = states_each c h (scope c s d) (scope_facts c h s d f.2 f.1).inside
  span_of_each s (history b) l f = states_each c h (scope c s b) (scope_facts c h s b f.3 f.1).inside
  span_of_each s in_place l f = one_more l (states_each c h s l)

  pub span_fits : (t : ℕ) → t < length c.transitions → SpanFits (length c.states) (span c t)
  unfolding span
  span_fits t l =
      let n = length c.states in
      let f = h.transitions t l in
      let r = span_range t l in
      subst (SpanFits n) (sym r.is) (range_fits n r.first r.more
      (subst (Each (λ x. x < n)) r.is (span_of_each (trans_row c t).source (trans_row c t).target f.source f.target)))
