-- The tree of a chart that keeps rule R2: the proper descendants of a state are the numbers that follow it. Assumes nothing.
use mathlib.Core.Path.{◌∙◌, ◌≡◌, ap, refl, subst, sym}
use mathlib.Core.Logic.{◌⊎◌, inl, inr, ⊎_elim}
use Prim.Native.Nat.{◌+◌, ◌-◌, ◌<◌, ◌≤◌, suc, zero, ℕ}
use native.Mathlib.Omega.{arith}
use native.Mathlib.Nat.{add-suc, add-zero, suc-add, zero-add}
use mathlib.Core.Bool.{Bool, cond, false, true, true≢false}
use mathlib.Core.List.{List, [], ◌++◌, ◌∷◌}
use lib.ListN.{length}
use lib.Dec.{T, eqb, eqb→eq}
use borrow.Author.Tests.{eq-eqb}
use Rattle.laws.proofs.Lists.{is_false, or_cases, or_left, or_right}
use Rattle.laws.specs.Facts.{Ordered, Under, child, deeper}
use Rattle.meaning.specs.Chart.{Chart}
use Rattle.meaning.specs.Lists.{from, has, keep}
use Rattle.meaning.specs.Tree.{all_states, ancestors, climb, descendants, parent_of}

pub under_trans : {c : Chart} {a b d : ℕ} → Under c a b → Under c b d → Under c a d
under_trans {c} {a} u (child e) = deeper (subst (Under c a) (sym e) u)
under_trans u (deeper v) = deeper (under_trans u v)

module _ (c : Chart) (o : Ordered c) where
  pub under_lt : {s d : ℕ} → Under c s d → s < d
  under_lt (child {n} e) = omega (arith, o.falls n, e)
  under_lt (deeper {n} u) = omega (arith, o.falls n, under_lt u)

  pub step_down : (s n : ℕ) → suc n < length c.states → Under c s (suc n) → (s ≡ n) ⊎ Under c s n
  step_down s n h (child e) = ⊎_elim (λ q. inl (sym e ∙ q)) (λ q. inr (subst (λ x. Under c x n) e q)) (o.follows n h)
  step_down s n h (deeper u) = ⊎_elim (λ q. inr (subst (Under c s) q u)) (λ q. inr (under_trans u q)) (o.follows n h)

-- ---- the ancestors of the meaning

T_true : (b : Bool) → b ≡ true → T b
T_true b e = subst T (sym e) tt

pub climb_under : (c : Chart) (s f d : ℕ) → has s (climb c f d) ≡ true → Under c s d
unfolding climb has
climb_under c s zero d e = absurd (true≢false (sym e))
climb_under c s (suc f) zero e = absurd (true≢false (sym e))
climb_under c s (suc f) (suc n) e =
    ⊎_elim (λ q. child (sym (eqb→eq s (parent_of c (suc n)) (T_true _ q)))) (λ q. deeper (climb_under c s f (parent_of c (suc n)) q))
    (or_cases (eqb s (parent_of c (suc n))) (has s (climb c f (parent_of c (suc n)))) e)

pub under_climb : (c : Chart) → Ordered c → (s f d : ℕ) → d ≤ f → Under c s d → has s (climb c f d) ≡ true
unfolding climb has
under_climb c o s zero zero h u = elim u [ ]
under_climb c o s (suc f) zero h u = elim u [ ]
under_climb c o s zero (suc n) h u = absurd (omega arith)
under_climb c o s (suc f) (suc n) h (child e) = or_left (eqb s (parent_of c (suc n))) _ (eq-eqb _ _ (sym e))
under_climb c o s (suc f) (suc n) h (deeper u) =
    or_right (eqb s (parent_of c (suc n))) _ (under_climb c o s f (parent_of c (suc n)) (omega (arith, o.falls n)) u)

pub has_under : (c : Chart) (s d : ℕ) → has s (ancestors c d) ≡ true → Under c s d
unfolding ancestors
has_under c s d e = climb_under c s d d e

pub under_has : (c : Chart) → Ordered c → (s d : ℕ) → Under c s d → has s (ancestors c d) ≡ true
unfolding ancestors
under_has c o s d u = under_climb c o s d d (omega arith) u

-- ---- lists of numbers

pub from_add : (a n m : ℕ) → from a (n + m) ≡ from a n ++ from (a + n) m
unfolding from
from_add a zero m = rw (zero-add, add-zero)
from_add a (suc n) m =
    let e : a + suc n ≡ suc a + n = omega arith in
    rw (suc-add, e) (ap (λ l. a ∷ l) (from_add (suc a) n m))

pub keep_append : {A : Type 0} (p : A → Bool) (xs ys : List A) → keep p (xs ++ ys) ≡ keep p xs ++ keep p ys
unfolding keep
keep_append p [] ys = refl
keep_append {A} p (x ∷ xs) ys = go (p x) (keep_append p xs ys)
  where
    go : (b : Bool) → keep p (xs ++ ys) ≡ keep p xs ++ keep p ys
        → cond b (x ∷ keep p (xs ++ ys)) (keep p (xs ++ ys)) ≡ cond b (x ∷ keep p xs) (keep p xs) ++ keep p ys
    go true ih = ap (λ l. x ∷ l) ih
    go false ih = ih

-- where p holds nowhere, nothing is kept
pub keep_none : (p : ℕ → Bool) (a n : ℕ) → ((x : ℕ) → a ≤ x → x < a + n → p x ≡ false) → keep p (from a n) ≡ []
unfolding keep from
keep_none p a zero h = refl
keep_none p a (suc n) h = rw (h a (omega arith) (omega arith)) (keep_none p (suc a) n (λ x l g. h x (omega arith) (omega arith)))

-- where p, once false, stays so, what is kept is the first part
abbrev Closed : (ℕ → Bool) → ℕ → ℕ → Type 0
Closed p a m = (x : ℕ) → a ≤ x → suc x < m → p (suc x) ≡ true → p x ≡ true

stays_false : (p : ℕ → Bool) (a m : ℕ) → Closed p a m → p a ≡ false → (d : ℕ) → a + d < m → p (a + d) ≡ false
stays_false p a m h e zero g = rw add-zero e
stays_false p a m h e (suc d) g =
    rw add-suc (is_false _ (λ t. true≢false (sym (h (a + d) (omega arith) (omega arith) t) ∙ stays_false p a m h e d (omega arith))))

pub keep_first : (p : ℕ → Bool) (a n : ℕ) → Closed p a (a + n) → keep p (from a n) ≡ from a (length (keep p (from a n)))
unfolding keep from
keep_first p a zero h = refl
keep_first p a (suc n) h = go (p a) refl (keep_first p (suc a) n (λ x l g. h x (omega arith) (omega arith)))
  where
    go : (b : Bool) → p a ≡ b → keep p (from (suc a) n) ≡ from (suc a) (length (keep p (from (suc a) n)))
        → cond b (a ∷ keep p (from (suc a) n)) (keep p (from (suc a) n))
        ≡ from a (length (cond b (a ∷ keep p (from (suc a) n)) (keep p (from (suc a) n))))
    go true e ih = ap (λ l. a ∷ l) ih
    go false e ih = rw (keep_none p (suc a) n
        (λ x l g. let q : x ≡ a + (x - a) = omega arith in rw q (stays_false p a (a + suc n) h e (x - a) (omega arith))))

pub keep_cut : (p : ℕ → Bool) (k m : ℕ) → ((x : ℕ) → x < k → p x ≡ false) → keep p (from 0 (k + m)) ≡ keep p (from k m)
keep_cut p k m h =
    rw (from_add, keep_append, keep_none p 0 k (λ x l g. h x (omega arith)), zero-add)

pub keep_range : (p : ℕ → Bool) (k m : ℕ)
    → ((x : ℕ) → x < k → p x ≡ false) → Closed p k (k + m) → keep p (from 0 (k + m)) ≡ from k (length (keep p (from 0 (k + m))))
keep_range p k m h g = rw (keep_cut p k m h) (keep_first p k m g)

-- ---- the proper descendants are a range

module _ (c : Chart) (o : Ordered c) (s : ℕ) (h : s < length c.states) where
  down : Closed (λ d. has s (ancestors c d)) (suc s) (length c.states)
  down x l g e = ⊎_elim (λ q. absurd (omega arith)) (λ u. under_has c o s x u) (step_down c o s x g (has_under c s (suc x) e))

  none_up_to : (x : ℕ) → x < suc s → has s (ancestors c x) ≡ false
  none_up_to x g = is_false _ (λ e. let u : s < x = under_lt c o (has_under c s x e) in absurd (omega arith))

  size_split : length c.states ≡ suc s + (length c.states - suc s)
  size_split = omega arith

  pub range : descendants c s ≡ from (suc s) (length (descendants c s))
  unfolding descendants all_states
  range = subst (λ n. Closed (λ d. has s (ancestors c d)) (suc s) n
      → keep (λ d. has s (ancestors c d)) (from 0 n) ≡ from (suc s) (length (keep (λ d. has s (ancestors c d)) (from 0 n))))
      (sym size_split) (keep_range (λ d. has s (ancestors c d)) (suc s) (length c.states - suc s) none_up_to) down
