-- A legal configuration as plain facts (01, "A legal configuration"), both ways: from the test to the facts and back.
-- While a history is entered there is one o state that has no child yet: a configuration may have a hole. Assumes nothing.
use mathlib.Core.Path.{◌∙◌, ◌≡◌, ap, refl, subst, sym}
use mathlib.Core.Logic.{⊎_elim}
use Prim.Native.Nat.{◌+◌, ◌-◌, ◌<◌, ◌≤◌, suc, zero, ℕ}
use native.Mathlib.Omega.{arith}
use mathlib.Core.Bool.{Bool, ◌&&◌, false, false≢true, not, true, true≢false}
use mathlib.Core.Option.{some}
use lib.ListN.{get_or-eq_default, drop, get_or, length, length-drop}
use lib.Seq.{get_or-drop}
use borrow.Author.Tests.{eq-eqb, eqb-true, not-true}
use Rattle.invariants.proofs.Counting.{Kept, keep_keep, kept_exactly, kept_exists, kept_only}
use Rattle.laws.proofs.Lists.{and_both, and_left, and_right, at_every, every_at, every_range, is_false, le_or_lt, range_every}
use Rattle.laws.proofs.Rules.{a_inside, o_inside}
use Rattle.laws.proofs.Sound.{SoundChart, a_not_root, child_every, child_inside, child_parent, every_child, no_root_child, parent_child}
use Rattle.meaning.specs.Chart.{Chart}
use Rattle.meaning.specs.Foreign.{children_legal, legal, legal_at, marks_fit}
use Rattle.meaning.specs.Lists.{every, from, keep}
use Rattle.meaning.specs.Tree.{all_states, children, is_child, kind_of, parent_of}
use Rattle.meaning.specs.Widget.{is_active}
use Rattle.meaning.specs.declared.State.{State}
use Rattle.meaning.specs.declared.chart.Kind.{Kind}
use Rattle.meaning.specs.declared.chart.Kind.TheVariants.{A as kind_a, B as kind_b, O as kind_o}

pub record Config (c : Chart) (on : ℕ → Bool) (hole : ℕ → Type 0) : Type 0 where
  pub root : on 0 ≡ true
  pub inside : (s : ℕ) → on s ≡ true → s < length c.states
  pub up : (n : ℕ) → on (suc n) ≡ true → on (parent_of c (suc n)) ≡ true
  pub one : (s : ℕ) → kind_of c s ≡ kind_o → on s ≡ true → (hole s → ⊥) → (y : ℕ) × (is_child c s y ≡ true) × (on y ≡ true)
  pub only : (s y z : ℕ) → kind_of c s ≡ kind_o → is_child c s y ≡ true → is_child c s z ≡ true → on y ≡ true → on z ≡ true → y ≡ z
  pub all : (s y : ℕ) → kind_of c s ≡ kind_a → on s ≡ true → is_child c s y ≡ true → on y ≡ true

abbrev pub no_hole : ℕ → Type 0
no_hole s = ⊥

-- the same marks, told otherwise
pub config_same : (c : Chart) (on now : ℕ → Bool) (hole : ℕ → Type 0) → ((s : ℕ) → on s ≡ now s) → Config c on hole → Config c now hole
config_same c on now hole e h = record {
  root = sym (e 0) ∙ h.root;
  inside = λ s p. h.inside s (e s ∙ p);
  up = λ n p. sym (e (parent_of c (suc n))) ∙ h.up n (e (suc n) ∙ p);
  one = λ s k p q. let y = h.one s k (e s ∙ p) q in (y.0, y.1, sym (e y.0) ∙ y.2);
  only = λ s y z k ty tz p q. h.only s y z k ty tz (e y ∙ p) (e z ∙ q);
  all = λ s y k p t. sym (e y) ∙ h.all s y k (e s ∙ p) t;
}

-- ---- marks of places that the chart has not

inside_of : (n : ℕ) (u : State) → marks_fit n u ≡ true → (s : ℕ) → is_active u s ≡ true → s < n
unfolding marks_fit is_active
inside_of n u h s e = ⊎_elim (λ l. absurd (true≢false (sym e ∙ off l))) (λ l. l) (le_or_lt n s)
  where
    off : n ≤ s → get_or u.active s false ≡ false
    off l = ⊎_elim
        (λ m. get_or-eq_default u.active false m)
        (λ m.
        let i : s ≡ n + (s - n) = omega arith in
        let k : s - n < length (drop n u.active) = subst (λ x. s - n < x) (sym (length-drop n u.active)) (omega arith) in
        ap (λ x. get_or u.active x false) i ∙ sym (get_or-drop n u.active (s - n) false)
        ∙ not-true _ (every_at not (drop n u.active) h (s - n) k false))
        (le_or_lt (length u.active) s)

marks_of : (n : ℕ) (u : State) → ((s : ℕ) → is_active u s ≡ true → s < n) → marks_fit n u ≡ true
unfolding marks_fit is_active
marks_of n u h = at_every not (drop n u.active)
    false (λ i l. ap not (get_or-drop n u.active i false ∙ is_false _ (λ e. omega (arith, h (n + i) e))))

-- ---- the test, state by state

module _ (c : Chart) (u : State) where
  abbrev LegalAt : ℕ → Type 0
  LegalAt s = legal_at c u s ≡ true

  at_on : (s : ℕ) → is_active u s ≡ true → LegalAt s → (k : Kind) → kind_of c s ≡ k → children_legal c u k (children c s) ≡ true
  unfolding legal_at
  at_on s e h k q = subst (λ x. children_legal c u x (children c s) ≡ true) q (go (is_active u s) e h)
    where
      go : (b : Bool) → b ≡ true → elim b [
        | true ↦ children_legal c u (kind_of c s) (children c s)
        | false ↦ every (λ d. not (is_active u d)) (children c s)
      ] ≡ true
          → children_legal c u (kind_of c s) (children c s) ≡ true
      go true p x = x
      go false p x = absurd (false≢true p)

  at_off : (s : ℕ) → is_active u s ≡ false → LegalAt s → every (λ d. not (is_active u d)) (children c s) ≡ true
  unfolding legal_at
  at_off s e h = go (is_active u s) e h
    where
      go : (b : Bool) → b ≡ false → elim b [
        | true ↦ children_legal c u (kind_of c s) (children c s)
        | false ↦ every (λ d. not (is_active u d)) (children c s)
      ] ≡ true
          → every (λ d. not (is_active u d)) (children c s) ≡ true
      go true p x = absurd (true≢false p)
      go false p x = x

  on_at : (s : ℕ) → (is_active u s ≡ true → children_legal c u (kind_of c s) (children c s) ≡ true)
      → (is_active u s ≡ false → every (λ d. not (is_active u d)) (children c s) ≡ true) → LegalAt s
  unfolding legal_at
  on_at s h g = go (is_active u s) h g
    where
      go : (b : Bool) → (b ≡ true → children_legal c u (kind_of c s) (children c s) ≡ true)
          → (b ≡ false → every (λ d. not (is_active u d)) (children c s) ≡ true)
          → elim b [
            | true ↦ children_legal c u (kind_of c s) (children c s)
            | false ↦ every (λ d. not (is_active u d)) (children c s)
          ] ≡ true
      go true x y = x refl
      go false x y = y refl

-- ---- from the test to the facts

module _ (c : Chart) (h : SoundChart c) (u : State) (l : legal c u ≡ true) (m : marks_fit (length c.states) u ≡ true) where
  each_legal : (s : ℕ) → s < length c.states → legal_at c u s ≡ true
  unfolding legal all_states
  each_legal s q = every_range (legal_at c u) 0 (length c.states)
      (and_right (is_active u 0) (every (legal_at c u) (from 0 (length c.states))) l) s (omega arith) (omega arith)

  root_on : is_active u 0 ≡ true
  unfolding legal
  root_on = and_left (is_active u 0) (every (legal_at c u) (all_states c)) l

  one_child : (s : ℕ) → kind_of c s ≡ kind_o
      → is_active u s ≡ true → length (keep (λ x. is_child c s x && is_active u x) (from 0 (length c.states))) ≡ 1
  unfolding children_legal children all_states
  one_child s k e = sym (ap length (keep_keep (is_active u) (is_child c s) (from 0 (length c.states))))
      ∙ eqb-true _ _ (at_on c u s e (each_legal s (o_inside c s k)) kind_o k)

  pub config_of : Config c (is_active u) no_hole
  unfolding children_legal
  config_of = record {
    root = root_on;
    inside = inside_of (length c.states) u m;
    up = λ n e. is_on n e (is_active u (parent_of c (suc n))) refl;
    one = λ s k e q. some s (kept_exists (λ x. is_child c s x && is_active u x) 0 (length c.states) (omega (arith, one_child s k e)));
    only = λ s y z k ty tz ey ez. kept_only (λ x. is_child c s x && is_active u x)
        (length c.states) y z (one_child s k (parent_on s y ty ey))
        (inside_of (length c.states) u m y ey) (inside_of (length c.states) u m z ez)
        (and_both (is_child c s y) (is_active u y) ty ey) (and_both (is_child c s z) (is_active u z) tz ez);
    all = λ s y k e t. every_child c (is_active u) s (all_on s k e) y (child_inside c s y (a_not_root c h s k) t) t;
  }
    where
      is_on : (n : ℕ) → is_active u (suc n) ≡ true → (b : Bool) → is_active u (parent_of c (suc n)) ≡ b → b ≡ true
      is_on n e true q = refl
      is_on n e false q =
          let i = inside_of (length c.states) u m (suc n) e in
          absurd (true≢false (sym e ∙ not-true _ (every_child c (λ d. not (is_active u d)) (parent_of c (suc n))
          (at_off c u (parent_of c (suc n)) q (each_legal (parent_of c (suc n)) (omega (arith, h.ordered.falls n))))
          (suc n) i (parent_child c (parent_of c (suc n)) n refl))))

      some : (s : ℕ) → Kept (λ x. is_child c s x && is_active u x) 0 (length c.states)
          → (y : ℕ) × (is_child c s y ≡ true) × (is_active u y ≡ true)
      some s f = (
        f.0,
        and_left (is_child c s f.0) (is_active u f.0) f.3,
        and_right (is_child c s f.0) (is_active u f.0) f.3,
      )

      parent_on : (s y : ℕ) → is_child c s y ≡ true → is_active u y ≡ true → is_active u s ≡ true
      parent_on s zero t e = absurd (no_root_child c s t)
      parent_on s (suc n) t e =
          subst (λ p. is_active u p ≡ true) (child_parent c s n t) (is_on n e (is_active u (parent_of c (suc n))) refl)

      all_on : (s : ℕ) → kind_of c s ≡ kind_a → is_active u s ≡ true → every (is_active u) (children c s) ≡ true
      all_on s k e = at_on c u s e (each_legal s (a_inside c s k)) kind_a k

-- ---- and back

module _ (c : Chart) (h : SoundChart c) (u : State) (g : Config c (is_active u) no_hole) where
  child_on : (s y : ℕ) → is_child c s y ≡ true → is_active u y ≡ true → is_active u s ≡ true
  child_on s zero t e = absurd (no_root_child c s t)
  child_on s (suc n) t e = subst (λ p. is_active u p ≡ true) (child_parent c s n t) (g.up n e)

  legal_children : (s : ℕ) → is_active u s ≡ true → (k : Kind) → kind_of c s ≡ k → children_legal c u k (children c s) ≡ true
  unfolding children_legal children all_states
  legal_children s e kind_o k =
      let y = g.one s k e (λ z. z) in
      eq-eqb _ _ (ap length (keep_keep (is_active u) (is_child c s) (from 0 (length c.states)))
      ∙ kept_exactly (λ x. is_child c s x && is_active u x) 0 (length c.states) y.0
      (omega arith) (omega (arith, g.inside y.0 y.2)) (and_both (is_child c s y.0) (is_active u y.0) y.1 y.2)
      (λ z a b t. g.only s z y.0 k (and_left (is_child c s z) (is_active u z) t)
      y.1 (and_right (is_child c s z) (is_active u z) t) y.2))
  legal_children s e kind_a k = child_every c (is_active u) s (λ y l t. g.all s y k e t)
  legal_children s e kind_b k = refl

  pub legal_of : legal c u ≡ true
  unfolding legal all_states
  legal_of = and_both (is_active u 0) (every (legal_at c u) (from 0 (length c.states))) g.root
      (range_every (legal_at c u) 0 (length c.states) (λ s a b. on_at c u s (λ e. legal_children s e (kind_of c s) refl)
      (λ e. child_every c (λ d. not (is_active u d)) s
      (λ y l t. ap not (is_false (is_active u y) (λ q. true≢false (sym (child_on s y t q) ∙ e)))))))

  pub marks_legal : marks_fit (length c.states) u ≡ true
  marks_legal = marks_of (length c.states) u g.inside
