-- Preorder: the proper descendants of a state are its children, each followed by its own descendants. Assumes nothing.
use mathlib.Core.Path.{◌∙◌, ◌≡◌, ap, refl, subst, sym}
use mathlib.Core.Logic.{◌⊎◌, inl, inr, ⊎_elim}
use Prim.Native.Nat.{◌+◌, ◌-◌, ◌<◌, ◌≤◌, suc, zero, ℕ}
use native.Mathlib.Omega.{arith}
use native.Mathlib.Nat.{add-suc, add-zero, eq-or-lt_of_le, suc-add}
use mathlib.Core.Bool.{Bool, false, true, true≢false}
use mathlib.Core.List.{List, [], ◌++◌, ◌∷◌}
use lib.ListN.{length}
use borrow.Author.Tests.{eq-eqb, eqb-true}
use Rattle.laws.proofs.Lists.{is_false}
use Rattle.laws.proofs.Tree.{from_add, has_under, keep_append, keep_cut, keep_none, step_down, under_has, under_lt}
use Rattle.laws.specs.Facts.{Ordered, Under, child, deeper}
use Rattle.laws.proofs.Tree.{under_trans}
use Rattle.meaning.specs.Chart.{Chart}
use Rattle.meaning.specs.Lists.{concat_map, from, has, keep}
use Rattle.meaning.specs.Tree.{all_states, ancestors, children, descendants, is_child, parent_of}

-- ---- where what p keeps is the first k

pub record Run (p : ℕ → Bool) (a n : ℕ) : Type 0 where
  pub k : ℕ
  pub fits : k ≤ n
  pub inside : (x : ℕ) → a ≤ x → x < a + k → p x ≡ true
  pub outside : (x : ℕ) → a + k ≤ x → x < a + n → p x ≡ false
  pub kept : keep p (from a n) ≡ from a k

stays : (p : ℕ → Bool) (a m : ℕ) → ((x : ℕ) → a ≤ x → suc x < m → p (suc x) ≡ true → p x ≡ true)
    → p a ≡ false → (d : ℕ) → a + d < m → p (a + d) ≡ false
stays p a m h e zero g = rw add-zero e
stays p a m h e (suc d) g =
    rw add-suc (is_false _ (λ t. true≢false (sym (h (a + d) (omega arith) (omega arith) t) ∙ stays p a m h e d (omega arith))))

run_cons : (p : ℕ → Bool) (a n : ℕ) → p a ≡ true → Run p (suc a) n → Run p a (suc n)
unfolding keep from
run_cons p a n e r = record {
  k = suc r.k;
  fits = omega (arith, r.fits);
  inside = λ x l g. at_or_after x l g;
  outside = λ x l g. r.outside x (omega arith) (omega arith);
  kept = rw e (ap (λ l. a ∷ l) r.kept);
}
  where
    cases : (x : ℕ) → a ≤ x → (x ≡ a) ⊎ (suc a ≤ x)
    cases x l = ⊎_elim (λ q. inl (sym q)) (λ q. inr q) (eq-or-lt_of_le l)

    at_or_after : (x : ℕ) → a ≤ x → x < a + suc r.k → p x ≡ true
    at_or_after x l g = ⊎_elim (λ q. rw q e) (λ q. r.inside x q (omega arith)) (cases x l)

run_nil : (p : ℕ → Bool) (a n : ℕ) → ((x : ℕ) → a ≤ x → x < a + n → p x ≡ false) → Run p a n
unfolding from
run_nil p a n h = record
    { k = 0; fits = omega arith; inside = λ x l g. absurd (omega arith); outside = λ x l g. h x (omega arith) g; kept = keep_none p a n h }

pub find_run : (p : ℕ → Bool) (a n : ℕ) → ((x : ℕ) → a ≤ x → suc x < a + n → p (suc x) ≡ true → p x ≡ true) → Run p a n
find_run p a zero h = run_nil p a 0 (λ x l g. absurd (omega arith))
find_run p a (suc n) h = go (p a) refl (find_run p (suc a) n (λ x l g. h x (omega arith) (omega arith)))
  where
    go : (b : Bool) → p a ≡ b → Run p (suc a) n → Run p a (suc n)
    go true e r = run_cons p a n e r
    go false e r = run_nil p a (suc n)
        (λ x l g. let q : x ≡ a + (x - a) = omega arith in rw q (stays p a (a + suc n) h e (x - a) (omega arith)))

-- ---- in a tree

pub linear : {c : Chart} {p x d : ℕ} → Under c p d → Under c x d → (p ≡ x) ⊎ (Under c p x ⊎ Under c x p)
linear (child e) (child e') = inl (sym e ∙ e')
linear {c} {p} {x} (child e) (deeper v) = inr (inr (subst (Under c x) e v))
linear {c} {p} {x} (deeper u) (child e') = inr (inl (subst (Under c p) e' u))
linear (deeper u) (deeper v) = linear u v

-- above a child of s there is s and what is above s
pub above_child : {c : Chart} {p s : ℕ} (n : ℕ) → parent_of c (suc n) ≡ s → Under c p (suc n) → (p ≡ s) ⊎ Under c p s
above_child n e (child q) = inl (sym q ∙ e)
above_child {c} {p} n e (deeper u) = inr (subst (Under c p) e u)

module _ (c : Chart) (o : Ordered c) where
  -- what follows the last descendant of a child y of s, and is under s, is a child of s
  pub next_child : (s y z : ℕ) → parent_of c (suc y) ≡ s → (z ≡ suc y) ⊎ Under c (suc y) z → suc z < length c.states
      → Under c s (suc z) → (Under c (suc y) (suc z) → ⊥) → parent_of c (suc z) ≡ s
  next_child s y z e l h (child q) n = q
  next_child s y z e l h (deeper u) n = ⊎_elim same above (o.follows z h)
    where
      p : ℕ
      p = parent_of c (suc z)

      below_y : (p ≡ suc y) ⊎ Under c (suc y) p → p ≡ s
      below_y d = absurd (n (⊎_elim (λ q. child q) (λ q. deeper q) d))

      over_y : Under c p (suc y) → p ≡ s
      over_y v = ⊎_elim (λ q. q) (λ q. absurd (omega (arith, under_lt c o q, under_lt c o u))) (above_child y e v)

      same : p ≡ z → p ≡ s
      same q = below_y (⊎_elim (λ r. inl (q ∙ r)) (λ r. inr (subst (Under c (suc y)) (sym q) r)) l)

      above : Under c p z → p ≡ s
      above v = ⊎_elim (λ r. over_y (subst (Under c p) r v))
          (λ r. ⊎_elim (λ q. below_y (inl q)) (λ q. ⊎_elim over_y (λ w. below_y (inr w)) q) (linear v r)) l

  pub sub_run : (s m : ℕ) → suc s + m ≡ length c.states → Run (λ d. has s (ancestors c d)) (suc s) m
  sub_run s m e = find_run (λ d. has s (ancestors c d)) (suc s) m
      (λ x l g t. ⊎_elim (λ q. absurd (omega arith)) (λ u. under_has c o s x u) (step_down c o s x (omega arith) (has_under c s (suc x) t)))

  none_up_to : (s x : ℕ) → x < suc s → has s (ancestors c x) ≡ false
  none_up_to s x g = is_false _ (λ e. let u : s < x = under_lt c o (has_under c s x e) in absurd (omega arith))

  pub sub_kept : (s m : ℕ) (e : suc s + m ≡ length c.states) → descendants c s ≡ from (suc s) (sub_run s m e).k
  unfolding descendants all_states
  sub_kept s m e = rw (← e) (keep_cut (λ d. has s (ancestors c d)) (suc s) m (none_up_to s) ∙ (sub_run s m e).kept)

pub keep_all : (p : ℕ → Bool) (a n : ℕ) → ((x : ℕ) → a ≤ x → x < a + n → p x ≡ true) → keep p (from a n) ≡ from a n
unfolding keep from
keep_all p a zero h = refl
keep_all p a (suc n) h =
    rw (h a (omega arith) (omega arith)) (ap (λ l. a ∷ l) (keep_all p (suc a) n (λ x l g. h x (omega arith) (omega arith))))

module _ (c : Chart) (o : Ordered c) (s : ℕ) where
  unfoldable pub is_under : ℕ → Bool
  is_under d = has s (ancestors c d)

  unfoldable pub tree : ℕ → List ℕ
  tree y = y ∷ descendants c y

  child_parent : (n : ℕ) → is_child c s (suc n) ≡ true → parent_of c (suc n) ≡ s
  unfolding is_child
  child_parent n e = eqb-true _ _ e

  parent_child : (n : ℕ) → parent_of c (suc n) ≡ s → is_child c s (suc n) ≡ true
  unfolding is_child
  parent_child n e = eq-eqb _ _ e

  not_child : (n : ℕ) → is_under (suc n) ≡ false → is_child c s (suc n) ≡ false
  unfolding is_under
  not_child n e = is_false _ (λ t. true≢false (sym (under_has c o s (suc n) (child (child_parent n t))) ∙ e))

  -- a place where a child of s may stand next
  unfoldable pub Border : ℕ → ℕ → Type 0
  Border x n = (parent_of c (suc x) ≡ s) ⊎ ((is_under (suc x) ≡ false) ⊎ (n ≡ 0))

  gone : (x n : ℕ) → s ≤ x → suc x + n ≡ length c.states
      → is_under (suc x) ≡ false → (d : ℕ) → suc x ≤ d → d < suc x + n → is_under d ≡ false
  unfolding is_under
  gone x n l e q d a b =
      let i : d ≡ suc x + (d - suc x) = omega arith in
      rw i (stays (λ y. has s (ancestors c y)) (suc x) (suc x + n)
      (λ y a₁ b₁ t. ⊎_elim (λ z. absurd (omega arith))
      (λ v. under_has c o s y v) (step_down c o s y (omega arith) (has_under c s (suc y) t))) q (d - suc x) (omega arith))

  children_gone : (x n : ℕ) → ((d : ℕ) → suc x ≤ d → d < suc x + n → is_under d ≡ false) → keep (is_child c s) (from (suc x) n) ≡ []
  children_gone x n h = keep_none (is_child c s) (suc x) n (λ d a b. one d a (h d a b))
    where
      one : (d : ℕ) → suc x ≤ d → is_under d ≡ false → is_child c s d ≡ false
      one zero a e = absurd (omega arith)
      one (suc d) a e = not_child d e

  pub border_next : (x n : ℕ) (e : suc (suc x) + n ≡ length c.states)
      → parent_of c (suc x) ≡ s → (m : ℕ) → n ≡ (sub_run c o (suc x) n e).k + m → Border (suc x + (sub_run c o (suc x) n e).k) m
  unfolding Border is_under
  border_next x n e q zero f = inr (inr refl)
  border_next x n e q (suc m) f = go (has s (ancestors c (suc z))) refl
    where
      r : Run (λ d. has (suc x) (ancestors c d)) (suc (suc x)) n
      r = sub_run c o (suc x) n e

      z : ℕ
      z = suc x + r.k

      last : (k : ℕ) → k ≡ r.k → (z ≡ suc x) ⊎ Under c (suc x) z
      last zero h = inl (omega arith)
      last (suc k) h = inr (has_under c (suc x) z (r.inside z (omega arith) (omega arith)))

      past : Under c (suc x) (suc z) → ⊥
      past v = true≢false (sym (under_has c o (suc x) (suc z) v) ∙ r.outside (suc z) (omega arith) (omega arith))

      go : (b : Bool) → has s (ancestors c (suc z)) ≡ b → (parent_of c (suc z) ≡ s) ⊎ ((has s (ancestors c (suc z)) ≡ false) ⊎ (suc m ≡ 0))
      go true t = inl (next_child c o s x z q (last r.k refl) (omega arith) (has_under c s (suc z) t) past)
      go false t = inr (inl t)

  keep_cons : (p : ℕ → Bool) (y : ℕ) (l : List ℕ) → p y ≡ true → keep p (y ∷ l) ≡ y ∷ keep p l
  unfolding keep
  keep_cons p y l e = rw e refl

  -- a child of s with its descendants, and what is left
  part : (x n : ℕ) → s ≤ x → (e : suc (suc x) + n ≡ length c.states)
      → parent_of c (suc x) ≡ s → (m : ℕ) → n ≡ (sub_run c o (suc x) n e).k + m
      → keep is_under (from (suc (suc x + (sub_run c o (suc x) n e).k)) m)
      ≡ concat_map tree (keep (is_child c s) (from (suc (suc x + (sub_run c o (suc x) n e).k)) m))
      → keep is_under (from (suc x) (suc n)) ≡ concat_map tree (keep (is_child c s) (from (suc x) (suc n)))
  unfolding from concat_map tree is_under
  part x n l e q m f ih =
      ap (keep is_under) cut ∙ keep_cons is_under (suc x) _ (under_has c o s (suc x) (child q))
      ∙ ap (λ l. suc x ∷ l) (keep_append is_under F G ∙ ap (λ l. l ++ keep is_under G) all_under ∙ ap (λ l. F ++ l) ih)
      ∙ sym (ap (λ l. concat_map tree (keep (is_child c s) l)) cut ∙ ap (concat_map tree) (keep_cons (is_child c s) (suc x) _
      (parent_child x q) ∙ ap (λ l. suc x ∷ l) (keep_append (is_child c s) F G ∙ ap (λ l. l ++ keep (is_child c s) G) no_child))
      ∙ ap (λ l. suc x ∷ (l ++ concat_map tree (keep (is_child c s) G))) (sub_kept c o (suc x) n e))
    where
      r : Run (λ d. has (suc x) (ancestors c d)) (suc (suc x)) n
      r = sub_run c o (suc x) n e

      F : List ℕ
      F = from (suc (suc x)) r.k

      G : List ℕ
      G = from (suc (suc x + r.k)) m

      cut : from (suc x) (suc n) ≡ suc x ∷ (F ++ G)
      cut = ap (λ l. suc x ∷ l) (ap (from (suc (suc x))) f
          ∙ from_add (suc (suc x)) r.k m ∙ ap (λ i. F ++ from i m) (suc-add (suc x) r.k))

      all_under : keep is_under F ≡ F
      all_under = keep_all is_under _ r.k (λ d a b. under_has c o s d (under_trans (child q) (has_under c (suc x) d (r.inside d a b))))

      not_here : (d : ℕ) → suc (suc x) ≤ d → d < suc (suc x) + r.k → is_child c s d ≡ false
      not_here zero a b = absurd (omega arith)
      not_here (suc d) a b = is_false _ (λ t. ⊎_elim (λ w. absurd (omega arith)) (λ w. absurd (omega (arith, under_lt c o w)))
          (above_child d (child_parent d t) (has_under c (suc x) (suc d) (r.inside (suc d) a b))))

      no_child : keep (is_child c s) F ≡ []
      no_child = keep_none (is_child c s) _ r.k not_here

  pub preorder_from : (g x n : ℕ) → n ≤ g → s ≤ x → suc x + n ≡ length c.states
      → Border x n → keep is_under (from (suc x) n) ≡ concat_map tree (keep (is_child c s) (from (suc x) n))
  unfolding Border keep from concat_map
  preorder_from zero x zero a l e b = refl
  preorder_from (suc g) x zero a l e b = refl
  preorder_from zero x (suc n) a l e b = absurd (omega arith)
  preorder_from (suc g) x (suc n) a l e (inr (inl q)) =
      rw (keep_none is_under (suc x) (suc n) (gone x (suc n) l e q), children_gone x (suc n) (gone x (suc n) l e q))
  preorder_from (suc g) x (suc n) a l e (inr (inr q)) = absurd (omega arith)
  preorder_from (suc g) x (suc n) a l e (inl q) =
      let e' : suc (suc x) + n ≡ length c.states = omega arith in
      let k : ℕ = (sub_run c o (suc x) n e').k in
      let f : n ≡ k + (n - k) = omega (arith, (sub_run c o (suc x) n e').fits) in
      part x n l e' q (n - k) f
      (preorder_from g (suc x + k) (n - k) (omega arith) (omega arith) (omega arith) (border_next x n e' q (n - k) f))

  first_border : (m : ℕ) → Border s m
  unfolding Border is_under
  first_border m = go (has s (ancestors c (suc s))) refl
    where
      is_first : Under c s (suc s) → parent_of c (suc s) ≡ s
      is_first (child q) = q
      is_first (deeper v) = absurd (omega (arith, under_lt c o v, o.falls s))

      go : (b : Bool) → has s (ancestors c (suc s)) ≡ b → (parent_of c (suc s) ≡ s) ⊎ ((has s (ancestors c (suc s)) ≡ false) ⊎ (m ≡ 0))
      go true t = inl (is_first (has_under c s (suc s) t))
      go false t = inr (inl t)

  pub preorder : (m : ℕ) → suc s + m ≡ length c.states → descendants c s ≡ concat_map tree (children c s)
  unfolding descendants children all_states is_under is_child
  preorder m e = rw (← e)
      (keep_cut is_under (suc s) m (none_up_to c o s) ∙ preorder_from m s m (omega arith) (omega arith) e (first_border m)
      ∙ ap (concat_map tree) (sym (keep_cut (is_child c s) (suc s) m early)))
    where
      early : (x : ℕ) → x < suc s → is_child c s x ≡ false
      early zero h = refl
      early (suc x) h = is_false _ (λ t. absurd (omega (arith, child_parent x t, o.falls x)))
