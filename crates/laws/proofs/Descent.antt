-- Going down level by level enters the same states as one forward pass. Assumes nothing.
use mathlib.Core.Path.{◌∙◌, ◌≡◌, ap, refl, subst, sym}
use mathlib.Core.Logic.{◌⊎◌, inr, ⊎_elim}
use Prim.Native.Nat.{◌+◌, ◌-◌, ◌<◌, ◌≤◌, suc, zero, ℕ}
use native.Mathlib.Omega.{arith}
use native.Mathlib.Nat.{eq-or-lt_of_le}
use mathlib.Core.Bool.{Bool, ◌&&◌, cond, false, true, true≢false}
use mathlib.Core.List.{List, [], ◌++◌, ◌∷◌, append-nil, map}
use lib.ListN.{length}
use lib.Dec.{eqb}
use borrow.Author.Tests.{eq-eqb, eqb-true, ne_eqb}
use Rattle.laws.proofs.Preorder.{preorder, tree}
use Rattle.laws.proofs.Tree.{has_under, keep_append, under_trans}
use Rattle.laws.specs.Facts.{Sound, Under, child, deeper}
use Rattle.meaning.specs.Chart.{Chart}
use Rattle.meaning.specs.Entry.{Visit, Way, below, defaults, goes_on, on_to, plain, state_of, stops}
use Rattle.meaning.specs.Lists.{concat_map, from, has, keep}
use Rattle.meaning.specs.Tree.{all_states, ancestors, children, default_child, descendants, is_child, kind_of, parent_of}
use Rattle.meaning.specs.declared.chart.Kind.{Kind}
use Rattle.meaning.specs.declared.chart.Kind.TheVariants.{A as kind_a, B as kind_b, O as kind_o}

-- ---- lists

module _ {A B : Type 0} where
  pub concat_map_none : (g : A → List B) (p : A → Bool) (xs : List A) → ((x : A) → p x ≡ true → g x ≡ []) → concat_map g (keep p xs) ≡ []
  unfolding concat_map keep
  concat_map_none g p [] h = refl
  concat_map_none g p (x ∷ xs) h = go (p x) refl (concat_map_none g p xs h)
    where
      go : (b : Bool) → p x ≡ b → concat_map g (keep p xs) ≡ [] → concat_map g (cond b (x ∷ keep p xs) (keep p xs)) ≡ []
      go true e ih = rw (h x e) ih
      go false e ih = ih

  pub map_append : (f : A → B) (xs ys : List A) → map f (xs ++ ys) ≡ map f xs ++ map f ys
  map_append f [] ys = refl
  map_append f (x ∷ xs) ys = ap (λ l. f x ∷ l) (map_append f xs ys)

  pub map_concat_map : {C : Type 0} (f : A → B) (g : C → List A) (xs : List C) → map f (concat_map g xs) ≡ concat_map (λ x. map f (g x)) xs
  unfolding concat_map
  map_concat_map f g [] = refl
  map_concat_map f g (x ∷ xs) = map_append f (g x) (concat_map g xs) ∙ ap (λ l. map f (g x) ++ l) (map_concat_map f g xs)

  pub keep_concat_map : (p : B → Bool) (g : A → List B) (xs : List A) → keep p (concat_map g xs) ≡ concat_map (λ x. keep p (g x)) xs
  unfolding concat_map keep
  keep_concat_map p g [] = refl
  keep_concat_map p g (x ∷ xs) = keep_append p (g x) (concat_map g xs) ∙ ap (λ l. keep p (g x) ++ l) (keep_concat_map p g xs)

none_from : {B : Type 0} (g : ℕ → List B) (p : ℕ → Bool) (a n : ℕ)
    → ((x : ℕ) → a ≤ x → p x ≡ true → g x ≡ []) → concat_map g (keep p (from a n)) ≡ []
unfolding concat_map keep from
none_from g p a zero h = refl
none_from {B} g p a (suc n) h = go (p a) refl (none_from g p (suc a) n (λ x l. h x (omega arith)))
  where
    go : (b : Bool) → p a ≡ b → concat_map g (keep p (from (suc a) n)) ≡ []
        → concat_map g (cond b (a ∷ keep p (from (suc a) n)) (keep p (from (suc a) n))) ≡ []
    go true e ih = rw (h a (omega arith) e) ih
    go false e ih = ih

pub cong_from : {B : Type 0} (g k : ℕ → List B) (p : ℕ → Bool) (a n : ℕ)
    → ((x : ℕ) → x < a + n → p x ≡ true → g x ≡ k x) → concat_map g (keep p (from a n)) ≡ concat_map k (keep p (from a n))
unfolding concat_map keep from
cong_from g k p a zero h = refl
cong_from {B} g k p a (suc n) h = go (p a) refl (cong_from g k p (suc a) n (λ x l. h x (omega arith)))
  where
    rest : List ℕ
    rest = keep p (from (suc a) n)

    go : (b : Bool) → p a ≡ b → concat_map g rest ≡ concat_map k rest
        → concat_map g (cond b (a ∷ rest) rest) ≡ concat_map k (cond b (a ∷ rest) rest)
    go true e ih = rw (h a (omega arith) e, ih)
    go false e ih = ih

-- where only d yields anything
pub concat_map_one : {B : Type 0} (g : ℕ → List B) (p : ℕ → Bool) (a n d : ℕ)
    → a ≤ d → d < a + n → p d ≡ true → ((x : ℕ) → p x ≡ true → (x ≡ d → ⊥) → g x ≡ []) → concat_map g (keep p (from a n)) ≡ g d
unfolding concat_map keep from
concat_map_one g p a zero d l u e h = absurd (omega arith)
concat_map_one {B} g p a (suc n) d l u e h =
    ⊎_elim here (later (p a) refl (λ q. concat_map_one g p (suc a) n d q (omega arith) e h)) (eq-or-lt_of_le l)
  where
    here : a ≡ d → concat_map g (cond (p a) (a ∷ keep p (from (suc a) n)) (keep p (from (suc a) n))) ≡ g d
    here q = rw (q, e, none_from g p (suc d) n (λ x m t. h x t (λ r. omega arith))) (append-nil (g d))

    later : (b : Bool) → p a ≡ b → (suc a ≤ d → concat_map g (keep p (from (suc a) n)) ≡ g d)
        → a < d → concat_map g (cond (p a) (a ∷ keep p (from (suc a) n)) (keep p (from (suc a) n))) ≡ g d
    later true t ih q = rw (t, h a t (λ r. omega arith)) (ih q)
    later false t ih q = rw t (ih q)

pub keep_keep_none : {A : Type 0} (p q : A → Bool) (xs : List A) → ((x : A) → q x ≡ true → p x ≡ false) → keep p (keep q xs) ≡ []
unfolding keep
keep_keep_none p q [] h = refl
keep_keep_none p q (x ∷ xs) h = go (q x) refl (keep_keep_none p q xs h)
  where
    go : (b : Bool) → q x ≡ b → keep p (keep q xs) ≡ [] → keep p (cond b (x ∷ keep q xs) (keep q xs)) ≡ []
    go true e ih = rw (h x e) ih
    go false e ih = ih

-- ---- which child an o state goes on with

unfoldable pub picks : Chart → Kind → Way → ℕ → ℕ → Bool
picks c kind_o (on_to d) s x = eqb x d
picks c kind_o defaults s x = eqb x (default_child c s)
picks c kind_o stops s x = false
picks c kind_a w s x = true
picks c kind_b w s x = true

-- r says of each state under b whether it is entered
pub record Reached (c : Chart) (way : ℕ → Way) (b : ℕ) (r : ℕ → Bool) : Type 0 where
  pub top : r b ≡ true
  pub step : (n : ℕ) → Under c b (suc n) → r (suc n) ≡ (picks c
      (kind_of c (parent_of c (suc n))) (way (parent_of c (suc n))) (parent_of c (suc n)) (suc n) && r (parent_of c (suc n)))

and_off : (a x : Bool) → x ≡ false → (a && x) ≡ false
and_off true x e = e
and_off false x e = refl

and_on : (a x : Bool) → a ≡ true → x ≡ true → (a && x) ≡ true
and_on a x e f = rw (e, f)

module _ (c : Chart) (way : ℕ → Way) (b : ℕ) (r : ℕ → Bool) (g : Sound c way) (h : Reached c way b r) where
  -- a state is at or under b
  abbrev In : ℕ → Type 0
  In s = (s ≡ b) ⊎ Under c b s

  in_child : (s n : ℕ) → In s → parent_of c (suc n) ≡ s → Under c b (suc n)
  in_child s n i e = ⊎_elim (λ q. child (e ∙ q)) (λ u. deeper (subst (Under c b) (sym e) u)) i

  child_reached : (s n : ℕ) → In s → parent_of c (suc n) ≡ s → r (suc n) ≡ (picks c (kind_of c s) (way s) s (suc n) && r s)
  child_reached s n i e = subst (λ p. r (suc n) ≡ (picks c (kind_of c p) (way p) p (suc n) && r p)) e (h.step n (in_child s n i e))

  -- below a state that is not entered nothing is
  dead : (s d : ℕ) → In s → r s ≡ false → Under c s d → r d ≡ false
  dead s d i e (child {n} q) = child_reached s n i q ∙ and_off (picks c (kind_of c s) (way s) s (suc n)) (r s) e
  dead s d i e (deeper {n} u) = h.step n (in_under s n i u)
      ∙ and_off (picks c _ _ _ (suc n)) (r (parent_of c (suc n))) (dead s (parent_of c (suc n)) i e u)
    where
      in_under : (x m : ℕ) → In x → Under c x (parent_of c (suc m)) → Under c b (suc m)
      in_under x m i₁ v = deeper (⊎_elim (λ q. subst (λ y. Under c y (parent_of c (suc m))) q v) (λ w. under_trans w v) i₁)

  -- the tree of a child that is not entered
  nothing : (s y : ℕ) → In s → is_child c s y ≡ true → picks c (kind_of c s) (way s) s y ≡ false → keep r (tree c g.ordered s y) ≡ []
  unfolding is_child tree keep descendants
  nothing s zero i e p = absurd (true≢false (sym e))
  nothing s (suc n) i e p =
      let q : parent_of c (suc n) ≡ s = eqb-true _ _ e in
      let off : r (suc n) ≡ false = child_reached s n i q ∙ rw p in
      rw off (keep_keep_none r (λ d. has (suc n) (ancestors c d))
      (all_states c) (λ d t. dead (suc n) d (inr (in_child s n i q)) off (has_under c (suc n) d t)))

  -- what is kept below s, child by child
  parts : (s : ℕ) → s < length c.states → keep r (descendants c s) ≡ concat_map (λ y. keep r (tree c g.ordered s y)) (children c s)
  parts s u = ap (keep r) (preorder c g.ordered s (length c.states - suc s) (omega arith))
      ∙ keep_concat_map r (tree c g.ordered s) (children c s)

  entered : (s y : ℕ) → In s → is_child c s y ≡ true → picks c (kind_of c s) (way s) s y ≡ true → r s ≡ true → r y ≡ true
  unfolding is_child
  entered s zero i e p q = absurd (true≢false (sym e))
  entered s (suc n) i e p q = child_reached s n i (eqb-true _ _ e) ∙ and_on (picks c (kind_of c s) (way s) s (suc n)) (r s) p q

  live : (s y : ℕ) → r y ≡ true → keep r (tree c g.ordered s y) ≡ y ∷ keep r (descendants c y)
  unfolding tree keep
  live s y e = rw e refl

  in_of : (s y : ℕ) → In s → is_child c s y ≡ true → In y
  unfolding is_child
  in_of s zero i e = absurd (true≢false (sym e))
  in_of s (suc n) i e = inr (in_child s n i (eqb-true _ _ e))

  -- s goes on with d alone
  one : (s d : ℕ) → s < length c.states → In s
      → r s ≡ true → (is_child c s d ≡ true) × (d < length c.states) → ((x : ℕ) → picks c (kind_of c s) (way s) s x ≡ eqb x d)
      → (l : List ℕ) → (r d ≡ true → l ≡ keep r (descendants c d)) → d ∷ l ≡ keep r (descendants c s)
  unfolding children all_states
  one s d u i e q p l ih =
      let on : r d ≡ true = entered s d i q.0 (p d ∙ eq-eqb d d refl) e in
      sym (parts s u
      ∙ concat_map_one (λ y. keep r (tree c g.ordered s y))
      (is_child c s) 0 (length c.states) d (omega arith) (omega (arith, q.1)) q.0
      (λ x t n. nothing s x i t (p x ∙ ne_eqb x d n))
      ∙ live s d on ∙ ap (λ k. d ∷ k) (sym (ih on)))

  goes : (s : ℕ) (deep : ℕ → List Visit) → s < length c.states → In s → r s ≡ true
      → ((y : ℕ) → is_child c s y ≡ true → y < length c.states → r y ≡ true → map state_of (deep y) ≡ keep r (descendants c y))
      → (x : Kind) → kind_of c s ≡ x → (w : Way) → way s ≡ w → map state_of (goes_on c deep s x w) ≡ keep r (descendants c s)
  unfolding goes_on state_of picks children all_states concat_map
  goes s deep u i e ih kind_o kx (on_to d) wx =
      one s d u i e (g.on s d kx wx) (λ x. rw (kx, wx)) _ (ih d (g.on s d kx wx).0 (g.on s d kx wx).1)
  goes s deep u i e ih kind_o kx defaults wx = one s (default_child c s) u i e
      (g.by s kx wx) (λ x. rw (kx, wx)) _ (ih (default_child c s) (g.by s kx wx).0 (g.by s kx wx).1)
  goes s deep u i e ih kind_o kx stops wx =
      sym (parts s u ∙ concat_map_none (λ y. keep r (tree c g.ordered s y))
      (is_child c s) (all_states c) (λ y t. nothing s y i t (rw (kx, wx))))
  goes s deep u i e ih kind_a kx w wx =
      map_concat_map state_of (λ d. plain d ∷ deep d) (children c s)
      ∙ cong_from (λ d. d ∷ map state_of (deep d)) (λ y. keep r (tree c g.ordered s y)) (is_child c s) 0 (length c.states)
      (λ y m t. let on : r y ≡ true = entered s y i t (rw kx) e in ap (λ k. y ∷ k) (ih y t (omega arith) on) ∙ sym (live s y on))
      ∙ sym (parts s u)
  goes s deep u i e ih kind_b kx w wx = sym (parts s u ∙ rw (g.leaf s kx))

  later : (s y : ℕ) → is_child c s y ≡ true → s < y
  unfolding is_child
  later s zero e = absurd (true≢false (sym e))
  later s (suc n) e = omega (arith, eqb-true (parent_of c (suc n)) s e, g.ordered.falls n)

  pub descent : (f s : ℕ) → length c.states ≤ s + f
      → s < length c.states → In s → r s ≡ true → map state_of (below c way f s) ≡ keep r (descendants c s)
  unfolding below
  descent zero s l u i e = absurd (omega arith)
  descent (suc f) s l u i e = goes s (below c way f) u i e
      (λ y t m on. descent f y (omega (arith, later s y t)) m (in_of s y i t) on) (kind_of c s) refl (way s) refl
