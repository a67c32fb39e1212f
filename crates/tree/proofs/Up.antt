-- The way up from a state, one parent at a time: the ancestors without their count, and what one step says of the child on the way to a
-- target and of the scope. Assumes nothing.
use Rattle.std.specs.Prelude.{None, Some}
use mathlib.Core.Path.{◌≡◌, refl, sym, ap}
use Prim.Native.Nat.{ℕ, zero, suc, ◌≤◌, ◌<◌}
use mathlib.Core.Bool.{true, false}
use mathlib.Core.List.{[], ◌∷◌}
use native.Mathlib.Omega.{arith}
use borrow.Author.Tests.{eq-eqb, ne_eqb}
use lib.Dec.{eqb}
use Rattle.laws.specs.Facts.{Ordered}
use Rattle.meaning.specs.Chart.{Chart}
use Rattle.meaning.specs.Lists.{has, first_that}
use Rattle.meaning.specs.Tree.{parent_of, kind_of, is_o, climb, ancestors, is_child, scope}
use Rattle.tree.specs.Courses.{path_child}

module _ (c : Chart) (o : Ordered c) where
  -- enough levels are enough
  climb_enough : (f g d : ℕ) → d ≤ f → d ≤ g → climb c f d ≡ climb c g d
  unfolding climb
  climb_enough zero zero d l m = refl
  climb_enough zero (suc g) zero l m = refl
  climb_enough zero (suc g) (suc n) l m = absurd (omega arith)
  climb_enough (suc f) zero zero l m = refl
  climb_enough (suc f) zero (suc n) l m = absurd (omega arith)
  climb_enough (suc f) (suc g) zero l m = refl
  climb_enough (suc f) (suc g) (suc n) l m =
      ap (λ x. parent_of c (suc n) ∷ x) (climb_enough f g (parent_of c (suc n)) (omega (arith, o.falls n)) (omega (arith, o.falls n)))

  pub ancestors_root : ancestors c 0 ≡ []
  unfolding ancestors climb
  ancestors_root = refl

  -- above a state are its parent and what is above that
  pub ancestors_up : (x : ℕ) → 0 < x → ancestors c x ≡ parent_of c x ∷ ancestors c (parent_of c x)
  unfolding ancestors climb
  ancestors_up zero h = absurd (omega arith)
  ancestors_up (suc n) h =
      ap (λ l. parent_of c (suc n) ∷ l) (climb_enough n (parent_of c (suc n)) (parent_of c (suc n)) (o.falls n) (omega arith))

  pub parent_falls : (x : ℕ) → 0 < x → parent_of c x < x
  parent_falls zero h = absurd (omega arith)
  parent_falls (suc n) h = omega (arith, o.falls n)

  -- ---- the child on the way

  child_is : (s x : ℕ) → 0 < x → is_child c s x ≡ eqb (parent_of c x) s
  unfolding is_child
  child_is s zero h = absurd (omega arith)
  child_is s (suc n) h = refl

  pub path_none : (s : ℕ) → path_child c s 0 ≡ None
  unfolding path_child has
  path_none s = rw ancestors_root refl

  pub path_here : (s x : ℕ) → 0 < x → parent_of c x ≡ s → path_child c s x ≡ Some x
  unfolding path_child has first_that
  path_here s x h e = rw (ancestors_up x h, eq-eqb s (parent_of c x) (sym e), child_is s x h, eq-eqb (parent_of c x) s e) refl

  pub path_up : (s x : ℕ) → 0 < x → (parent_of c x ≡ s → ⊥) → path_child c s (parent_of c x) ≡ path_child c s x
  unfolding path_child has first_that
  path_up s x h n = sym (rw (child_is s x h, ne_eqb (parent_of c x) s n, ancestors_up x h, ne_eqb s (parent_of c x) (λ e. n (sym e))) refl)

  -- ---- the scope

  pub scope_root : (t : ℕ) → scope c 0 t ≡ 0
  unfolding scope first_that
  scope_root t = rw ancestors_root refl

  pub scope_here : (s t : ℕ) → 0 < s → is_o (kind_of c (parent_of c s)) ≡ true
      → has (parent_of c s) (ancestors c t) ≡ true → scope c s t ≡ parent_of c s
  unfolding scope first_that
  scope_here s t h k a = rw (ancestors_up s h, k, a) refl

  pub scope_up_kind : (s t : ℕ) → 0 < s → is_o (kind_of c (parent_of c s)) ≡ false → scope c (parent_of c s) t ≡ scope c s t
  unfolding scope first_that
  scope_up_kind s t h k = sym (rw (ancestors_up s h, k) refl)

  pub scope_up : (s t : ℕ) → 0 < s → is_o (kind_of c (parent_of c s)) ≡ true
      → has (parent_of c s) (ancestors c t) ≡ false → scope c (parent_of c s) t ≡ scope c s t
  unfolding scope first_that
  scope_up s t h k a = sym (rw (ancestors_up s h, k, a) refl)
