-- A firing leads from a legal configuration to a legal one (01, "Firing"): under the scope the states that the way reaches,
-- elsewhere those that were. A way that stops at an o state leaves a hole there, which a later one fills. Assumes nothing.
use mathlib.Core.Path.{◌∙◌, ◌≡◌, ap, refl, subst, sym}
use mathlib.Core.Logic.{◌⊎◌, inl, inr, ⊎_elim}
use Prim.Native.Nat.{◌<◌, ◌≤◌, suc, zero, ℕ}
use native.Mathlib.Omega.{arith}
use mathlib.Core.Bool.{Bool, ◌&&◌, cond, false, false≢true, true, true≢false}
use lib.ListN.{length}
use lib.Dec.{eqb}
use borrow.Author.Tests.{eq-eqb, eqb-true}
use Rattle.invariants.proofs.Config.{Config}
use Rattle.laws.proofs.Descent.{Reached, picks}
use Rattle.laws.specs.Facts.{Sound, Under, child, deeper}
use Rattle.laws.proofs.Lists.{and_both, and_left, and_right, is_false, le_or_lt}
use Rattle.laws.proofs.Rules.{outside_parent}
use Rattle.laws.proofs.Sound.{SoundChart, child_parent, no_root_child}
use Rattle.laws.proofs.Tree.{has_under, under_has, under_lt}
use Rattle.meaning.specs.Chart.{Chart}
use Rattle.meaning.specs.Entry.{Way, defaults, on_to, stops}
use Rattle.meaning.specs.Lists.{has}
use Rattle.meaning.specs.Tree.{ancestors, default_child, is_child, kind_of, parent_of}
use Rattle.meaning.specs.declared.chart.Kind.TheVariants.{A as kind_a, O as kind_o}

-- what a firing makes of it: under the scope s what r names, elsewhere what was
unfoldable pub fired : Chart → (ℕ → Bool) → (ℕ → Bool) → ℕ → ℕ → Bool
fired c on r s x = cond (has s (ancestors c x)) (r x) (on x)

-- no way picks a place that the chart does not have
pick_outside : (c : Chart) → SoundChart c → (way : ℕ → Way) → Sound c way
    → (n : ℕ) → length c.states ≤ suc n → (w : Way) → way 0 ≡ w → picks c (kind_of c 0) (way 0) 0 (suc n) ≡ true → ⊥
unfolding picks
pick_outside c r way g n q (on_to d) f t = omega (arith, eqb-true (suc n) d (rw (r.root_o, f) at t), (g.on 0 d r.root_o f).1)
pick_outside c r way g n q defaults f t =
    omega (arith, eqb-true (suc n) (default_child c 0) (rw (r.root_o, f) at t), (g.by 0 r.root_o f).1)
pick_outside c r way g n q stops f t = false≢true (rw (r.root_o, f) at t)

-- what is reached is one of the chart's states
pub reached_inside : (c : Chart) → SoundChart c → (way : ℕ → Way) (r : ℕ → Bool) (s : ℕ)
    → Sound c way → Reached c way s r → (x : ℕ) → Under c s x → r x ≡ true → x < length c.states
reached_inside c sound way r s g h zero u e = absurd (omega (arith, under_lt c g.ordered u))
reached_inside c sound way r s g h (suc n) u e = ⊎_elim (λ q. absurd (outside_picks q)) (λ q. q) (le_or_lt (length c.states) (suc n))
  where
    outside_picks : length c.states ≤ suc n → ⊥
    outside_picks q =
        let p = outside_parent c (suc n) q in
        pick_outside c sound way g n q (way 0) refl
        (subst (λ i. picks c (kind_of c i) (way i) i (suc n) ≡ true) p (and_left (picks c (kind_of c (parent_of c (suc n)))
        (way (parent_of c (suc n))) (parent_of c (suc n)) (suc n)) (r (parent_of c (suc n))) (sym (h.step n u) ∙ e)))

module _ (c : Chart) (sound : SoundChart c) (way : ℕ → Way) (r on : ℕ → Bool) (s : ℕ) (hole : ℕ → Type 0)
    (g : Sound c way) (h : Reached c way s r) (l : Config c on hole) (top : on s ≡ true) where
  abbrev now : ℕ → Bool
  now = fired c on r s

  inside : (x : ℕ) → Under c s x → now x ≡ r x
  unfolding fired
  inside x u = rw (under_has c g.ordered s x u)

  outside : (x : ℕ) → (Under c s x → ⊥) → now x ≡ on x
  unfolding fired
  outside x n = rw (is_false (has s (ancestors c x)) (λ e. n (has_under c s x e)))

  not_self : Under c s s → ⊥
  not_self u = omega (arith, under_lt c g.ordered u)

  -- of a state at or under the scope that is in, the children that are in are those that are picked
  picked : (x n : ℕ) → (x ≡ s) ⊎ Under c s x → parent_of c (suc n) ≡ x → now (suc n) ≡ (picks c (kind_of c x) (way x) x (suc n) && now x)
  picked x n i e =
      inside (suc n) u ∙ subst (λ p. r (suc n) ≡ (picks c (kind_of c p) (way p) p (suc n) && r p)) e (h.step n u)
      ∙ ap (λ z. picks c (kind_of c x) (way x) x (suc n) && z) same
    where
      u : Under c s (suc n)
      u = ⊎_elim (λ q. child (e ∙ q)) (λ v. deeper (subst (Under c s) (sym e) v)) i

      same : r x ≡ now x
      same = ⊎_elim (λ q. ap r q ∙ h.top ∙ sym (outside s not_self ∙ top) ∙ ap now (sym q)) (λ v. sym (inside x v)) i

  elsewhere : (x n : ℕ) → (Under c s x → ⊥) → (x ≡ s → ⊥) → parent_of c (suc n) ≡ x → now (suc n) ≡ on (suc n)
  elsewhere x n u v e = outside (suc n) no_under
    where
      no_under : Under c s (suc n) → ⊥
      no_under (child q) = v (sym e ∙ q)
      no_under (deeper w) = u (subst (Under c s) e w)

  place : (x : ℕ) → ((x ≡ s) ⊎ Under c s x) ⊎ ((Under c s x → ⊥) × (x ≡ s → ⊥))
  place x = go (has s (ancestors c x)) refl (eqb x s) refl
    where
      go : (a : Bool) → has s (ancestors c x) ≡ a → (b : Bool) → eqb x s ≡ b → ((x ≡ s) ⊎ Under c s x) ⊎ ((Under c s x → ⊥) × (x ≡ s → ⊥))
      go true p b q = inl (inr (has_under c s x p))
      go false p true q = inl (inl (eqb-true _ _ q))
      go false p false q = inr ((λ u. true≢false (sym (under_has c g.ordered s x u) ∙ p)), (λ e. true≢false (sym (eq-eqb _ _ e) ∙ q)))

  -- the child that an o state at or under the scope goes on with, unless the way stops there
  way_child : (x : ℕ) → kind_of c x ≡ kind_o → (w : Way)
      → way x ≡ w → (w ≡ stops → ⊥) → (d : ℕ) × (is_child c x d ≡ true) × ((y : ℕ) → picks c (kind_of c x) (way x) x y ≡ eqb y d)
  unfolding picks
  way_child x k (on_to d) e n = (d, (g.on x d k e).0, λ y. rw (k, e))
  way_child x k defaults e n = (default_child c x, (g.by x k e).0, λ y. rw (k, e))
  way_child x k stops e n = absurd (n refl)

  picks_two : (x y z : ℕ) → kind_of c x ≡ kind_o
      → (w : Way) → way x ≡ w → picks c (kind_of c x) (way x) x y ≡ true → picks c (kind_of c x) (way x) x z ≡ true → y ≡ z
  unfolding picks
  picks_two x y z k (on_to d) e p q = eqb-true y d (rw (k, e) at p) ∙ sym (eqb-true z d (rw (k, e) at q))
  picks_two x y z k defaults e p q = eqb-true y (default_child c x) (rw (k, e) at p) ∙ sym (eqb-true z (default_child c x) (rw (k, e) at q))
  picks_two x y z k stops e p q = absurd (false≢true (rw (k, e) at p))

  in_child : (x y : ℕ) → (x ≡ s) ⊎ Under c s x → is_child c x y ≡ true → now y ≡ (picks c (kind_of c x) (way x) x y && now x)
  in_child x zero i t = absurd (no_root_child c x t)
  in_child x (suc n) i t = picked x n i (child_parent c x n t)

  out_child : (x y : ℕ) → (Under c s x → ⊥) × (x ≡ s → ⊥) → is_child c x y ≡ true → now y ≡ on y
  out_child x zero i t = absurd (no_root_child c x t)
  out_child x (suc n) i t = elsewhere x n i.0 i.1 (child_parent c x n t)

  pub legal_stays : (newhole : ℕ → Type 0)
      → ((x : ℕ) → (x ≡ s) ⊎ Under c s x → fired c on r s x ≡ true → kind_of c x ≡ kind_o → way x ≡ stops → newhole x)
      → ((x : ℕ) → (Under c s x → ⊥) × (x ≡ s → ⊥) → hole x → newhole x) → Config c (fired c on r s) newhole
  unfolding picks
  legal_stays newhole goes holes = record { root = root; inside = in_chart; up = up; one = one; only = only; all = all }
    where
      root : now 0 ≡ true
      root = outside 0 (λ u. omega (arith, under_lt c g.ordered u)) ∙ l.root

      in_chart : (x : ℕ) → now x ≡ true → x < length c.states
      in_chart x e = go (has s (ancestors c x)) refl
        where
          go : (b : Bool) → has s (ancestors c x) ≡ b → x < length c.states
          go true q = let u = has_under c s x q in reached_inside c sound way r s g h x u (sym (inside x u) ∙ e)
          go false q = l.inside x (sym (outside x (λ u. true≢false (sym (under_has c g.ordered s x u) ∙ q))) ∙ e)

      up : (n : ℕ) → now (suc n) ≡ true → now (parent_of c (suc n)) ≡ true
      up n e = ⊎_elim (λ i. and_right (picks c (kind_of c (parent_of c (suc n))) (way (parent_of c (suc n)))
          (parent_of c (suc n)) (suc n)) (now (parent_of c (suc n))) (sym (picked (parent_of c (suc n)) n i refl) ∙ e))
          (λ i. outside (parent_of c (suc n)) i.0
          ∙ l.up n (sym (elsewhere (parent_of c (suc n)) n i.0 i.1 refl) ∙ e)) (place (parent_of c (suc n)))

      one : (x : ℕ) → kind_of c x ≡ kind_o → now x ≡ true → (newhole x → ⊥) → (y : ℕ) × (is_child c x y ≡ true) × (now y ≡ true)
      one x k e q = ⊎_elim
          (λ i. let d : (d : ℕ) × (is_child c x d ≡ true)
          × ((y : ℕ) → picks c (kind_of c x) (way x) x y ≡ eqb y d) = way_child x k (way x) refl (λ w. q (goes x i e k w)) in (
            d.0,
            d.1,
            in_child x d.0 i d.1
                ∙ and_both (picks c (kind_of c x) (way x) x d.0) (now x) (d.2 d.0 ∙ eq-eqb d.0 d.0 refl) e,
          ))
          (λ i. let y : (y : ℕ) × (is_child c x y ≡ true) × (on y ≡ true) =
          l.one x k (sym (outside x i.0) ∙ e) (λ w. q (holes x i w)) in (y.0, y.1, out_child x y.0 i y.1 ∙ y.2))
          (place x)

      only : (x y z : ℕ) → kind_of c x ≡ kind_o → is_child c x y ≡ true → is_child c x z ≡ true → now y ≡ true → now z ≡ true → y ≡ z
      only x y z k ty tz ey ez = ⊎_elim
          (λ i. picks_two x y z k (way x) refl (and_left (picks c (kind_of c x) (way x) x y) (now x)
          (sym (in_child x y i ty) ∙ ey)) (and_left (picks c (kind_of c x) (way x) x z) (now x) (sym (in_child x z i tz) ∙ ez)))
          (λ i. l.only x y z k ty tz (sym (out_child x y i ty) ∙ ey) (sym (out_child x z i tz) ∙ ez))
          (place x)

      all : (x y : ℕ) → kind_of c x ≡ kind_a → now x ≡ true → is_child c x y ≡ true → now y ≡ true
      all x y k e t = ⊎_elim (λ i. in_child x y i t ∙ and_both (picks c (kind_of c x) (way x) x y) (now x) (rw k) e)
          (λ i. out_child x y i t ∙ l.all x y k (sym (outside x i.0) ∙ e) t) (place x)
