-- The tree of a chart, one step at a time: what the loops and tests of the code ask of the definitions of Tree. Assumes nothing.
use Rattle.std.specs.Prelude.{None, Some}
use Prim.Native.Nat.{ℕ, zero, suc, ◌-◌, ◌<◌}
use mathlib.Core.Path.{◌≡◌, refl}
use mathlib.Core.Bool.{true, false, cond}
use native.Mathlib.Omega.{arith}
use borrow.Author.Tests.{eq-eqb, ne_eqb}
use lib.Dec.{eqb}
use Rattle.meaning.specs.Lists.{has}
use Rattle.meaning.specs.Chart.{Chart}
use Rattle.meaning.specs.Tree.{parent_of, kind_of, is_o, is_child, climb}
use Rattle.meaning.specs.Effects.{o_parent}

module _ (c : Chart) where
  pub child_root : (s d : ℕ) → d ≡ 0 → is_child c s d ≡ false
  unfolding is_child
  child_root s d e = rw e

  pub child_below : (s d : ℕ) → (d ≡ 0 → ⊥) → is_child c s d ≡ eqb (parent_of c d) s
  unfolding is_child
  child_below s zero h = absurd (h refl)
  child_below s (suc n) h = refl

  pub o_parent_root : (s : ℕ) → s ≡ 0 → o_parent c s ≡ None
  unfolding o_parent
  o_parent_root s e = rw e

  pub o_parent_below : (s : ℕ) → (s ≡ 0 → ⊥) → o_parent c s ≡ cond (is_o (kind_of c (parent_of c s))) (Some (parent_of c s)) None
  unfolding o_parent
  o_parent_below zero h = absurd (h refl)
  o_parent_below (suc n) h = refl

  -- ---- the way up, of at most f steps from s

  pub climbed_root : (a f s : ℕ) → s ≡ 0 → has a (climb c f s) ≡ false
  unfolding climb has
  climbed_root a zero s e = refl
  climbed_root a (suc f) s e = rw e

  pub climbed_out : (a f s : ℕ) → f ≡ 0 → has a (climb c f s) ≡ false
  unfolding climb has
  climbed_out a f s e = rw e

  pub climbed_here : (a f s : ℕ) → 0 < f → (s ≡ 0 → ⊥) → a ≡ parent_of c s → has a (climb c f s) ≡ true
  unfolding climb has
  climbed_here a zero s h z e = absurd (omega arith)
  climbed_here a (suc f) zero h z e = absurd (z refl)
  climbed_here a (suc f) (suc n) h z e = rw (eq-eqb a (parent_of c (suc n)) e)

  pub climbed_on : (a f s : ℕ) → 0 < f → (s ≡ 0 → ⊥) → (a ≡ parent_of c s → ⊥)
      → has a (climb c (f - 1) (parent_of c s)) ≡ has a (climb c f s)
  unfolding climb has
  climbed_on a zero s h z e = absurd (omega arith)
  climbed_on a (suc f) zero h z e = absurd (z refl)
  climbed_on a (suc f) (suc n) h z e =
      let d : suc f - 1 ≡ f = omega arith in
      rw (d, ne_eqb a (parent_of c (suc n)) e)
