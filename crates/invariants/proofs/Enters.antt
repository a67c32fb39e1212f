-- The states of an itinerary as a test of each state: what is in after the exits and the entries of a firing is what was in
-- elsewhere, and below the scope what the way reaches. On the path to a state every state is reached. Assumes nothing.
use mathlib.Core.Path.{◌∙◌, ◌≡◌, ap, refl, subst, sym}
use mathlib.Core.Logic.{◌⊎◌, inl, inr, ⊎_elim}
use Prim.Native.Nat.{◌<◌, suc, zero, ℕ}
use native.Mathlib.Omega.{arith}
use mathlib.Core.Bool.{Bool, ◌&&◌, ◌||◌, cond, false, true}
use mathlib.Core.List.{List, [], ◌∷◌, map}
use lib.ListN.{length}
use lib.Dec.{eqb}
use borrow.Author.Tests.{eq-eqb, eqb-true, ne_eqb}
use Rattle.invariants.proofs.Fired.{fired, reached_inside}
use Rattle.invariants.proofs.Left.{left_on}
use Rattle.laws.proofs.Descent.{Reached, picks}
use Rattle.laws.specs.Facts.{Sound, Under, child, deeper}
use Rattle.laws.proofs.Lists.{and_both, or_cases, or_left, or_right, same_or}
use Rattle.laws.proofs.Preorder.{above_child, linear}
use Rattle.laws.proofs.Ranges.{has_in}
use Rattle.laws.proofs.Reach.{pass_states, reach, reached}
use Rattle.laws.proofs.Scope.{first_found}
use Rattle.laws.proofs.Sound.{SoundChart, child_parent, no_root_child, parent_child}
use Rattle.laws.proofs.Tree.{has_under, under_has, under_lt, under_trans}
use Rattle.meaning.specs.Chart.{Chart}
use Rattle.meaning.specs.Entry.{Way, all_below, defaults, on_to, state_of, stops, towards, towards_owner}
use Rattle.meaning.specs.Lists.{first_that, from, has, keep}
use Rattle.meaning.specs.Tree.{all_states, ancestors, descendants, is_child, kind_of, parent_of}
use Rattle.meaning.specs.declared.chart.Kind.{Kind}
use Rattle.meaning.specs.declared.chart.Kind.TheVariants.{A as kind_a, B as kind_b, O as kind_o}

-- ---- lists

pub eqb_sym : (m n : ℕ) → eqb m n ≡ eqb n m
eqb_sym m n = ⊎_elim (λ q. eq-eqb m n q ∙ sym (eq-eqb n m (sym q))) (λ q. ne_eqb m n q ∙ sym (ne_eqb n m (λ r. q (sym r)))) (same_or m n)

pub has_kept : (y : ℕ) (p : ℕ → Bool) (xs : List ℕ) → has y (keep p xs) ≡ (p y && has y xs)
unfolding has keep
has_kept y p [] = go (p y)
  where
    go : (b : Bool) → false ≡ (b && false)
    go true = refl
    go false = refl
has_kept y p (x ∷ xs) = ⊎_elim (here (p x) refl (has_kept y p xs)) (there (p x) (has_kept y p xs)) (same_or y x)
  where
    here : (b : Bool) → p x ≡ b → has y (keep p xs) ≡ (p y && has y xs)
        → y ≡ x → has y (cond b (x ∷ keep p xs) (keep p xs)) ≡ (p y && (eqb y x || has y xs))
    here true e ih q = ap (λ t. t || has y (keep p xs)) (eq-eqb y x q)
        ∙ sym (ap (λ t. p y && (t || has y xs)) (eq-eqb y x q) ∙ ap (λ t. t && true) (ap p q ∙ e))
    here false e ih q = ih ∙ ap (λ t. t && has y xs) (ap p q ∙ e) ∙ sym (ap (λ t. t && (eqb y x || has y xs)) (ap p q ∙ e))

    there : (b : Bool) → has y (keep p xs) ≡ (p y && has y xs)
        → (y ≡ x → ⊥) → has y (cond b (x ∷ keep p xs) (keep p xs)) ≡ (p y && (eqb y x || has y xs))
    there true ih n = ap (λ t. t || has y (keep p xs)) (ne_eqb y x n) ∙ ih ∙ sym (ap (λ t. p y && (t || has y xs)) (ne_eqb y x n))
    there false ih n = ih ∙ sym (ap (λ t. p y && (t || has y xs)) (ne_eqb y x n))

-- ---- what is in after the entries

or_false : (b : Bool) → (b || false) ≡ b
or_false true = refl
or_false false = refl

and_false : (b : Bool) → (b && false) ≡ false
and_false true = refl
and_false false = refl

module _ (c : Chart) (r : SoundChart c) (way : ℕ → Way) (g : Sound c way) (s : ℕ) (l : s < length c.states) where
  abbrev reaches : ℕ → Bool
  reaches x = reach c way s x x

  entered_has : (y : ℕ) → has y (map state_of (all_below c way s)) ≡ (reaches y && (has s (ancestors c y) && has y (all_states c)))
  unfolding descendants
  entered_has y = ap (has y) (pass_states c way g s l)
      ∙ has_kept y reaches (descendants c s) ∙ ap (λ b. reaches y && b) (has_kept y (λ d. has s (ancestors c d)) (all_states c))

  -- below the scope, just what the way reaches
  pub entered_under : (y : ℕ) → Under c s y → has y (map state_of (all_below c way s)) ≡ reaches y
  unfolding all_states
  entered_under y u = entered_has y ∙ ap (λ b. reaches y && (b && has y (all_states c))) (under_has c r.ordered s y u)
      ∙ go (reaches y) refl
    where
      go : (b : Bool) → reaches y ≡ b → (b && (true && has y (from 0 (length c.states)))) ≡ b
      go true e = has_in y 0 (length c.states)
          (omega arith) (omega (arith, reached_inside c r way reaches s g (reached c way g.ordered s) y u e))
      go false e = refl

  pub entered_not_under : (y : ℕ) → has s (ancestors c y) ≡ false → has y (map state_of (all_below c way s)) ≡ false
  entered_not_under y e = entered_has y ∙ ap (λ b. reaches y && (b && has y (all_states c))) e ∙ and_false (reaches y)

  -- what is in after the exits and the entries of a firing
  pub entered_fired : (on : ℕ → Bool) (y : ℕ) → (has y (map state_of (all_below c way s)) || left_on c on s y) ≡ fired c on reaches s y
  unfolding left_on fired
  entered_fired on y = go (has s (ancestors c y)) refl
    where
      go : (b : Bool) → has s (ancestors c y) ≡ b
          → (has y (map state_of (all_below c way s)) || cond b false (on y)) ≡ cond b (reaches y) (on y)
      go true e = or_false _ ∙ entered_under y (has_under c s y e)
      go false e = ap (λ t. t || on y) (entered_not_under y e)

-- ---- the path to a state b is reached

module _ (c : Chart) (r : SoundChart c) (b : ℕ) (l : b < length c.states) where
  -- at or above b
  abbrev OnPath : ℕ → Type 0
  OnPath x = (x ≡ b) ⊎ Under c x b

  path_has : (x : ℕ) → OnPath x → has x (b ∷ ancestors c b) ≡ true
  unfolding has
  path_has x p = ⊎_elim (λ q. or_left (eqb x b) (has x (ancestors c b)) (eq-eqb x b q))
      (λ q. or_right (eqb x b) (has x (ancestors c b)) (under_has c r.ordered x b q)) p

  has_path : (x : ℕ) → has x (b ∷ ancestors c b) ≡ true → OnPath x
  unfolding has
  has_path x e = ⊎_elim (λ q. inl (eqb-true x b q)) (λ q. inr (has_under c x b q)) (or_cases (eqb x b) (has x (ancestors c b)) e)

  -- two children of one state, both on the path, are one
  not_above : (p m n : ℕ) → parent_of c (suc m) ≡ p → parent_of c (suc n) ≡ p → Under c (suc m) (suc n) → ⊥
  not_above p m n e f u = ⊎_elim
      (λ q. omega (arith, r.ordered.falls m))
      (λ q. omega (arith, r.ordered.falls m, under_lt c r.ordered q))
      (above_child n f u)

  one_on_path : (p x y : ℕ) → is_child c p x ≡ true → is_child c p y ≡ true → OnPath x → OnPath y → x ≡ y
  one_on_path p zero y tx ty px py = absurd (no_root_child c p tx)
  one_on_path p (suc m) zero tx ty px py = absurd (no_root_child c p ty)
  one_on_path p (suc m) (suc n) tx ty px py = ⊎_elim
      (λ q. ⊎_elim (λ q'. q ∙ sym q')
      (λ q'. absurd (not_above p n m (child_parent c p n ty) (child_parent c p m tx) (subst (Under c (suc n)) (sym q) q'))) py)
      (λ q. ⊎_elim (λ q'. absurd (not_above p m n (child_parent c p m tx) (child_parent c p n ty) (subst (Under c (suc m)) (sym q') q)))
      (λ q'. ⊎_elim (λ e. e) (λ w. ⊎_elim
      (λ v. absurd (not_above p m n (child_parent c p m tx) (child_parent c p n ty) v))
      (λ v. absurd (not_above p n m (child_parent c p n ty) (child_parent c p m tx) v)) w) (linear q q')) py)
      px

  path_next : (p x : ℕ) → is_child c p x ≡ true → OnPath x → first_that (is_child c p) (b ∷ ancestors c b) ≡ x
  path_next p x t i =
      let f = first_found (is_child c p) (b ∷ ancestors c b) x (path_has x i) t in
      one_on_path p (first_that (is_child c p) (b ∷ ancestors c b)) x f.0 t (has_path _ f.1) i

  above_path : (n : ℕ) → OnPath (suc n) → Under c (parent_of c (suc n)) b
  above_path n i = ⊎_elim (λ q. subst (Under c (parent_of c (suc n))) q (child refl)) (λ q. under_trans (child refl) q) i

  owner_way : (p x : ℕ) → Under c p b → is_child c p x ≡ true → OnPath x → towards_owner c b p ≡ on_to x
  unfolding towards_owner towards
  owner_way p x u t i =
      ap (λ z. cond z stops (cond (has p (ancestors c b)) (on_to (first_that (is_child c p) (b ∷ ancestors c b))) defaults))
      (ne_eqb p b (λ q. omega (arith, under_lt c r.ordered u)))
      ∙ ap (λ z. cond z (on_to (first_that (is_child c p) (b ∷ ancestors c b))) defaults) (under_has c r.ordered p b u)
      ∙ ap on_to (path_next p x t i)

  path_picked : (n : ℕ) → OnPath (suc n) → (k : Kind)
      → picks c k (towards_owner c b (parent_of c (suc n))) (parent_of c (suc n)) (suc n) ≡ true
  unfolding picks
  path_picked n i kind_o = subst (λ w. picks c kind_o w (parent_of c (suc n)) (suc n) ≡ true)
      (sym (owner_way (parent_of c (suc n)) (suc n) (above_path n i) (parent_child c (parent_of c (suc n)) n refl) i))
      (eq-eqb (suc n) (suc n) refl)
  path_picked n i kind_a = refl
  path_picked n i kind_b = refl

  module _ (s : ℕ) where
    owner_reached_by : (f : ℕ → Bool) → Reached c (towards_owner c b) s f → (x : ℕ) → Under c s x → OnPath x → f x ≡ true
    owner_reached_by f h x (child {n} e) i = h.step n (child e)
        ∙ and_both (picks c (kind_of c (parent_of c (suc n))) (towards_owner c b (parent_of c (suc n))) (parent_of c (suc n))
        (suc n)) (f (parent_of c (suc n))) (path_picked n i (kind_of c (parent_of c (suc n)))) (ap f e ∙ h.top)
    owner_reached_by f h x (deeper {n} u) i = h.step n (deeper u) ∙ and_both (picks c (kind_of c (parent_of c (suc n)))
        (towards_owner c b (parent_of c (suc n))) (parent_of c (suc n)) (suc n)) (f (parent_of c (suc n)))
        (path_picked n i (kind_of c (parent_of c (suc n)))) (owner_reached_by f h (parent_of c (suc n)) u (inr (above_path n i)))

    -- the owner of a history is reached from every state above it
    pub owner_reached : Under c s b → reach c (towards_owner c b) s b b ≡ true
    owner_reached u = owner_reached_by (λ x. reach c (towards_owner c b) s x x)
        (reached c (towards_owner c b) r.ordered s) b u (inl refl)
