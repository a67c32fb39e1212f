-- The ways of 01 over a chart that passes the rules: towards a target, by defaults, towards the owner of a history, and by the
-- slots. Each goes on with children only, so each enters in one forward pass what it enters level by level. Assumes nothing.
use Rattle.std.specs.Prelude.{Option, None, Some}
use mathlib.Core.Path.{◌∙◌, ◌≡◌, ap, refl, subst}
use Prim.Native.Nat.{◌<◌, ◌≤◌, suc, zero, ℕ}
use native.Mathlib.Omega.{arith}
use mathlib.Core.Bool.{Bool, cond, false, true}
use mathlib.Core.List.{◌∷◌, map}
use lib.ListN.{length}
use lib.Dec.{eqb}
use Rattle.laws.specs.Facts.{Ordered, Sound, Under, child, deeper}
use Rattle.laws.proofs.Reach.{pass, reach, visit_of}
use Rattle.laws.proofs.Sound.{SoundChart, parent_child}
use Rattle.laws.proofs.Tree.{has_under, range}
use Rattle.meaning.specs.Chart.{Chart}
use Rattle.meaning.specs.Entry.{all_below, by_defaults, by_slots, defaults, on_to, slot_way, stops, towards, towards_owner}
use Rattle.meaning.specs.Lists.{first_that, from, has, keep}
use Rattle.meaning.specs.Tree.{ancestors, climb, descendants, is_child, parent_of}
use Rattle.meaning.specs.Widget.{slot}
use Rattle.meaning.specs.declared.State.{State}

-- the proper descendants of a state are the numbers that follow it
pub descendants_range : (c : Chart) → SoundChart c
    → (s : ℕ) → s < length c.states → descendants c s ≡ from (suc s) (length (descendants c s))
descendants_range c h s l = range c h.ordered s l

-- ---- the child on the path

towards_climb : (c : Chart) → Ordered c → (s f d : ℕ) → d ≤ f → Under c s d
    → (is_child c s (first_that (is_child c s) (d ∷ climb c f d)) ≡ true) × (first_that (is_child c s) (d ∷ climb c f d) ≤ d)
unfolding climb first_that
towards_climb c o s zero zero l u = elim u [ ]
towards_climb c o s (suc f) zero l u = elim u [ ]
towards_climb c o s zero (suc n) l u = absurd (omega arith)
towards_climb c o s (suc f) (suc n) l (child e) = rw (parent_child c s n e) (parent_child c s n e, omega arith)
towards_climb c o s (suc f) (suc n) l (deeper u) =
    go (is_child c s (suc n)) refl (towards_climb c o s f (parent_of c (suc n)) (omega (arith, o.falls n)) u)
  where
    next : ℕ
    next = first_that (is_child c s) (parent_of c (suc n) ∷ climb c f (parent_of c (suc n)))

    go : (b : Bool) → is_child c s (suc n) ≡ b → (is_child c s next ≡ true) × (next ≤ parent_of c (suc n))
        → (is_child c s (cond b (suc n) next) ≡ true) × (cond b (suc n) next ≤ suc n)
    go true e q = (e, omega arith)
    go false e q = (q.0, omega (arith, q.1, o.falls n))

-- from a state above t the path goes on with a child that is t or above it
pub path_child : (c : Chart) → Ordered c → (s t : ℕ) → Under c s t
    → (is_child c s (first_that (is_child c s) (t ∷ ancestors c t)) ≡ true) × (first_that (is_child c s) (t ∷ ancestors c t) ≤ t)
unfolding ancestors
path_child c o s t u = towards_climb c o s t t (omega arith) u

same_on : (d e : ℕ) → on_to d ≡ on_to e → d ≡ e
same_on d e p = cc

on_not_defaults : (d : ℕ) → defaults ≡ on_to d → ⊥
on_not_defaults d p = let z : ◌≡◌ {A = ℕ} 0 1 = cc in omega arith

on_not_stops : (d : ℕ) → stops ≡ on_to d → ⊥
on_not_stops d p = let z : ◌≡◌ {A = ℕ} 0 1 = cc in omega arith

module _ (c : Chart) (h : SoundChart c) where
  towards_on : (t : ℕ) → t < length c.states → (s d : ℕ) → towards c t s ≡ on_to d → (is_child c s d ≡ true) × (d < length c.states)
  unfolding towards
  towards_on t l s d e = go (has s (ancestors c t)) refl e
    where
      x : ℕ
      x = first_that (is_child c s) (t ∷ ancestors c t)

      go : (b : Bool) → has s (ancestors c t) ≡ b → cond b (on_to x) defaults ≡ on_to d → (is_child c s d ≡ true) × (d < length c.states)
      go true q p =
          let k = path_child c h.ordered s t (has_under c s t q) in
          let r = same_on x d p in
          (subst (λ y. is_child c s y ≡ true) r k.0, omega (arith, k.1))
      go false q p = absurd (on_not_defaults d p)

  pub towards_sound : (t : ℕ) → t < length c.states → Sound c (towards c t)
  towards_sound t l = record { ordered = h.ordered; on = λ s d k e. towards_on t l s d e; by = λ s k e. h.default s k; leaf = h.leaf }

  pub defaults_sound : Sound c by_defaults
  unfolding by_defaults
  defaults_sound = record {
    ordered = h.ordered;
    on = λ s d k e. absurd (on_not_defaults d e);
    by = λ s k e. h.default s k;
    leaf = h.leaf;
  }

  pub owner_sound : (b : ℕ) → b < length c.states → Sound c (towards_owner c b)
  unfolding towards_owner
  owner_sound b l = record { ordered = h.ordered; on = λ s d k e. go s d (eqb s b) e; by = λ s k e. h.default s k; leaf = h.leaf }
    where
      go : (s d : ℕ) (t : Bool) → cond t stops (towards c b s) ≡ on_to d → (is_child c s d ≡ true) × (d < length c.states)
      go s d true e = absurd (on_not_stops d e)
      go s d false e = towards_on b l s d e

  -- slots that hold children
  pub slots_sound : (u : State) → ((s d : ℕ) → slot u s ≡ Some d → (is_child c s d ≡ true) × (d < length c.states))
      → Sound c (by_slots u)
  unfolding by_slots slot_way
  slots_sound u fits = record {
    ordered = h.ordered;
    on = λ s d k e. go s d (slot u s) refl e;
    by = λ s k e. absurd (not_by (slot u s) e);
    leaf = h.leaf;
  }
    where
      go : (s d : ℕ) (x : Option ℕ) → slot u s ≡ x → slot_way x ≡ on_to d → (is_child c s d ≡ true) × (d < length c.states)
      go s d None q e = absurd (on_not_stops d e)
      go s d (Some y) q e = fits s d (q ∙ ap Some (same_on y d e))

      not_by : (x : Option ℕ) → slot_way x ≡ defaults → ⊥
      not_by None e = let z : ◌≡◌ {A = ℕ} 0 1 = cc in omega arith
      not_by (Some d) e = let z : ◌≡◌ {A = ℕ} 0 1 = cc in omega arith

  -- ---- going down level by level is one forward pass

  pub towards_pass : (t s : ℕ) → t < length c.states → s < length c.states
      → all_below c (towards c t) s ≡ map (visit_of c (towards c t)) (keep (λ x. reach c (towards c t) s x x) (descendants c s))
  towards_pass t s l k = pass c (towards c t) (towards_sound t l) s k

  pub defaults_pass : (s : ℕ) → s < length c.states
      → all_below c by_defaults s ≡ map (visit_of c by_defaults) (keep (λ x. reach c by_defaults s x x) (descendants c s))
  defaults_pass s k = pass c by_defaults defaults_sound s k

  pub owner_pass : (b s : ℕ) → b < length c.states → s < length c.states
      → all_below c (towards_owner c b) s
      ≡ map (visit_of c (towards_owner c b)) (keep (λ x. reach c (towards_owner c b) s x x) (descendants c s))
  owner_pass b s l k = pass c (towards_owner c b) (owner_sound b l) s k

  pub slots_pass : (u : State) (s : ℕ) → ((p d : ℕ) → slot u p ≡ Some d → (is_child c p d ≡ true) × (d < length c.states))
      → s < length c.states
      → all_below c (by_slots u) s ≡ map (visit_of c (by_slots u)) (keep (λ x. reach c (by_slots u) s x x) (descendants c s))
  slots_pass u s fits k = pass c (by_slots u) (slots_sound u fits) s k
