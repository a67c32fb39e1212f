-- The heads of a chart's plan fit, and its blocks fill the instructions with no gaps: heads and code walk the same lengths.
-- Assumes nothing.
use mathlib.Core.Path.{◌≡◌, ap, refl, subst}
use Prim.Native.Nat.{◌+◌, ◌<◌, suc, ℕ}
use native.Mathlib.Omega.{arith}
use mathlib.Core.List.{List, [], ◌++◌, ◌∷◌, map}
use lib.ListN.{length, length-append}
use Rattle.laws.specs.Facts.{Each, none_left, one_more}
use Rattle.laws.proofs.Rules.{GuardFacts}
use Rattle.laws.proofs.Sound.{SoundChart}
use Rattle.laws.proofs.Value.{GuardInRange, SizedChart}
use Rattle.meaning.specs.Chart.{Chart}
use Rattle.meaning.specs.Compile.{block, head_of, heads_from}
use Rattle.meaning.specs.Lists.{concat_map}
use Rattle.meaning.specs.Tree.{trans_row}
use Rattle.meaning.specs.declared.chart.Guard.{Guard}
use Rattle.meaning.specs.declared.chart.Guard.TheVariants.{Always as always, Compares as compares}
use Rattle.meaning.specs.declared.plan.Counts.{Counts}
use Rattle.plan_laws.proofs.Fits.{Fills, GuardFits, HeadFits, next_block, to_the_end}
use Rattle.plan_laws.proofs.Pieces.{CountsOf}
use Rattle.plan_laws.proofs.Spans.{span_fits}

-- ---- each head fits

module _ (c : Chart) (h : SoundChart c) (z : SizedChart c) (k : Counts) (q : CountsOf c k) where
  guard_fits : (g : Guard) → GuardFacts c g → GuardInRange g → GuardFits k g
  guard_fits always f r = tt
  guard_fits (compares v g x) f r = (omega (arith, q.vars), r)

  head_fits : (at len t : ℕ) → t < length c.transitions → HeadFits k (head_of c at len t)
  unfolding head_of
  head_fits at len t l =
      let f = h.transitions t l in
      let s = span_fits c h t l in
      record {
        transition = omega (arith, z.transitions);
        trigger = omega (arith, q.events, f.trigger);
        source = omega (arith, q.states, f.source);
        first = omega (arith, q.states, s.first);
        last = omega (arith, q.states, s.last);
        in_order = s.in_order;
        guard = guard_fits (trans_row c t).guard f.guard (z.guards_range t l);
      }

  pub heads_fit : (at : ℕ) (ts : List ℕ) → Each (λ t. t < length c.transitions) ts → Each (HeadFits k) (heads_from c at ts)
  unfolding heads_from
  heads_fit at [] none_left = none_left
  heads_fit at (t ∷ ts) (one_more p ps) = one_more (head_fits at (length (block c t)) t p) (heads_fit (at + length (block c t)) ts ps)

-- ---- heads and blocks walk together

module _ (c : Chart) where
  pub heads_fill : (at : ℕ) (ts : List ℕ) → Fills (at + length (concat_map (block c) ts)) at (heads_from c at ts)
  unfolding heads_from head_of concat_map
  heads_fill at [] = let e : at ≡ at + 0 = omega arith in subst (λ n. Fills n at []) e to_the_end
  heads_fill at (t ∷ ts) =
      let e : (at + length (block c t)) + length (concat_map (block c) ts) ≡ at + length (block c t ++ concat_map (block c) ts)
      = omega (arith, length-append (block c t) (concat_map (block c) ts)) in
      let next : ℕ = at + length (block c t) in
      next_block refl (subst (λ n. Fills n next (heads_from c next ts)) e (heads_fill next ts))

  pub heads_lengths : (at : ℕ) (ts : List ℕ) → map (λ h. h.length) (heads_from c at ts) ≡ map length (map (block c) ts)
  unfolding heads_from head_of
  heads_lengths at [] = refl
  heads_lengths at (t ∷ ts) = ap (λ l. length (block c t) ∷ l) (heads_lengths (at + length (block c t)) ts)

  pub heads_many : (at : ℕ) (ts : List ℕ) → length (heads_from c at ts) ≡ length ts
  unfolding heads_from
  heads_many at [] = refl
  heads_many at (t ∷ ts) = ap suc (heads_many (at + length (block c t)) ts)

  pub blocks_joined : (ts : List ℕ) → concat_map (block c) ts ≡ concat_map (λ b. b) (map (block c) ts)
  unfolding concat_map
  blocks_joined [] = refl
  blocks_joined (t ∷ ts) = ap (λ l. block c t ++ l) (blocks_joined ts)
