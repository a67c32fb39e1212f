-- Laws of a span in a chart that passes the rules: what lies below a state is a range, and below an o state it is not empty. Assumes
-- nothing.
use mathlib.Core.Path.{◌≡◌, refl, sym, ap, ◌∙◌}
use mathlib.Core.Logic.{⊎_elim}
use Prim.Native.Nat.{ℕ, zero, suc, ◌+◌, ◌-◌, ◌≤◌, ◌<◌}
use native.Mathlib.Omega.{arith}
use mathlib.Core.Bool.{Bool, true, false, cond, true≢false}
use mathlib.Core.List.{◌∷◌}
use lib.ListN.{length}
use Rattle.meaning.specs.Lists.{has, keep, from}
use Rattle.meaning.specs.Chart.{Chart}
use Rattle.meaning.specs.declared.chart.Kind.TheVariants.{O as kind_o}
use Rattle.meaning.specs.Tree.{kind_of, ancestors, descendants, all_states, default_child, is_child}
use Rattle.laws.proofs.Lists.{le_or_lt}
use Rattle.laws.proofs.Tree.{under_has, range}
use Rattle.laws.specs.Facts.{child}
use Rattle.laws.proofs.Sound.{SoundChart, child_parent, no_root_child}
use Rattle.choice.specs.declared.Span.{Span}
use Rattle.choice.specs.Span.{Spans}

-- ---- an o state has a proper descendant, its default

keep_some : (p : ℕ → Bool) (a n x : ℕ) → p x ≡ true → a ≤ x → x < a + n → 1 ≤ length (keep p (from a n))
unfolding keep from
keep_some p a zero x e l m = absurd (omega arith)
keep_some p a (suc n) x e l m = go (p a) refl (λ q. keep_some p (suc a) n x e q (omega arith))
  where
    go : (b : Bool) → p a ≡ b → (suc a ≤ x → 1 ≤ length (keep p (from (suc a) n)))
        → 1 ≤ length (cond b (a ∷ keep p (from (suc a) n)) (keep p (from (suc a) n)))
    go true f ih = omega arith
    go false f ih = ⊎_elim (λ q. let z : x ≡ a = omega arith in absurd (true≢false (sym e ∙ ap p z ∙ f))) ih (le_or_lt x a)

module _ (c : Chart) (h : SoundChart c) where
  pub o_some : (s : ℕ) → kind_of c s ≡ kind_o → 1 ≤ length (descendants c s)
  unfolding descendants all_states
  o_some s k = go (default_child c s) (h.default s k).0 (h.default s k).1
    where
      go : (d : ℕ) → is_child c s d ≡ true → d < length c.states
          → 1 ≤ length (keep (λ x. has s (ancestors c x)) (from 0 (length c.states)))
      go zero e l = absurd (no_root_child c s e)
      go (suc d) e l = keep_some (λ x. has s (ancestors c x)) 0 (length c.states) (suc d)
          (under_has c h.ordered s (suc d) (child (child_parent c s d e))) (omega arith) (omega arith)

-- ---- what lies below a state, as a range

module _ (c : Chart) (h : SoundChart c) (s : ℕ) (v : Span) (l : s < length c.states)
    (e : v.end ≡ suc s + length (descendants c s)) where
  pub scope_spans : kind_of c s ≡ kind_o → v.first ≡ s + 1 → Spans (descendants c s) v
  scope_spans k g =
      let q : length (descendants c s) ≡ v.end - v.first = omega arith in
      let p : suc s ≡ v.first = omega arith in
      record {
        is = range c h.ordered s l ∙ ap (from (suc s)) q
            ∙ ap (λ m. from m (v.end - v.first)) p;
        some = omega (arith, o_some c h s k);
      }

  pub place_spans : v.first ≡ s → Spans (s ∷ descendants c s) v
  unfolding from
  place_spans g =
      let q : v.end - v.first ≡ suc (length (descendants c s)) = omega arith in
      let p : from v.first (v.end - v.first) ≡ from s (suc (length (descendants c s))) = ap (λ m. from m (v.end - v.first)) g
      ∙ ap (from s) q in
      record { is = ap (λ ds. s ∷ ds) (range c h.ordered s l) ∙ sym p; some = omega arith }
