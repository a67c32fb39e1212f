-- The record kinds and the parts of a value (01, "Chart text"): each is told by its name, and what holds of every part holds of each.
-- Assumes nothing.
use mathlib.Core.Path.{◌≡◌, refl, sym, ap, ◌∙◌, subst}
use mathlib.Core.Bool.{Bool, true, false, false≢true, cond, ◌&&◌, ◌||◌}
use mathlib.Core.List.{List, [], ◌∷◌}
use Prim.Native.Nat.{ℕ, ◌<◌}
use native.Mathlib.Omega.{arith}
use lib.Dec.{eqb}
use borrow.Author.Tests.{eqb-true, eq-eqb}
use Rattle.laws.proofs.Lists.{and_left, and_right, and_both, or_left, or_right}
use Rattle.meaning.specs.Grammar.{Record, s_record, v_record, e_record, t_record, a_record, no_record, ORDER, name, most, named_in}
use Rattle.meaning.specs.Grammar.{record_by, same}
use Rattle.meaning.specs.Lists.{every, exists}
use Rattle.meaning.specs.Value.{Part, counted, laid, same_part, PARTS}

-- ---- kinds

pub named : (r : Record) → record_by (name r) ≡ r
unfolding record_by
named s_record = refl
named v_record = refl
named e_record = refl
named t_record = refl
named a_record = refl
named no_record = refl

pub same_true : (r q : Record) → same r q ≡ true → r ≡ q
same_true r q e = sym (named r) ∙ ap record_by (eqb-true (name r) (name q) e) ∙ named q

pub same_self : (r : Record) → same r r ≡ true
same_self r = eq-eqb (name r) (name r) refl

-- a letter that names a record of which there may be some is its name
module _ (x n : ℕ) where
  named_in_is : (rs : List Record) → n < most (named_in rs x) → x ≡ name (named_in rs x)
  named_in_is [] h = absurd (omega arith)
  named_in_is (r ∷ rs) h = go (eqb x (name r)) refl h (named_in_is rs)
    where
      go : (t : Bool) → eqb x (name r) ≡ t → n < most (cond t r (named_in rs x)) → (n < most (named_in rs x) → x ≡ name (named_in rs x))
          → x ≡ name (cond t r (named_in rs x))
      go true e h ih = eqb-true x (name r) e
      go false e h ih = ih h

  pub named_is : n < most (record_by x) → x ≡ name (record_by x)
  unfolding record_by
  named_is h = named_in_is ORDER h

  every_named : (f : Record → Bool) (rs : List Record) → every f rs ≡ true → n < most (named_in rs x) → f (named_in rs x) ≡ true
  unfolding every
  every_named f [] e h = absurd (omega arith)
  every_named f (r ∷ rs) e h = go (eqb x (name r)) h (every_named f rs (and_right (f r) (every f rs) e))
    where
      go : (t : Bool) → n < most (cond t r (named_in rs x)) → (n < most (named_in rs x) → f (named_in rs x) ≡ true)
          → f (cond t r (named_in rs x)) ≡ true
      go true h ih = and_left (f r) (every f rs) e
      go false h ih = ih h

-- what a test says of each kind in the order holds of any kind of which there may be some
pub every_record : (f : Record → Bool) → every f ORDER ≡ true → (r : Record) (n : ℕ) → n < most r → f r ≡ true
unfolding record_by
every_record f e r n h = rw (named r) at (every_named (name r) n f ORDER e (rw (← named r) at h))

-- ---- parts

pub same_part_true : (p q : Part) → same_part p q ≡ true → p ≡ q
same_part_true (counted r) (counted q) e = ap counted (same_true r q e)
same_part_true (counted r) (laid q) e = absurd (false≢true e)
same_part_true (laid r) (counted q) e = absurd (false≢true e)
same_part_true (laid r) (laid q) e = ap laid (same_true r q e)

pub same_part_self : (p : Part) → same_part p p ≡ true
same_part_self (counted r) = same_self r
same_part_self (laid r) = same_self r

-- a test of every part, and of each
pub part_every : (f : Part → Bool) (ps : List Part) → ((p : Part) → exists (same_part p) ps ≡ true → f p ≡ true) → every f ps ≡ true
unfolding every exists
part_every f [] h = refl
part_every f (q ∷ qs) h =
    and_both (f q) (every f qs) (h q (or_left (same_part q q) (exists (same_part q) qs) (same_part_self q)))
    (part_every f qs (λ p k. h p (or_right (same_part p q) (exists (same_part p) qs) k)))

pub every_part : (f : Part → Bool) (ps : List Part) → every f ps ≡ true → (p : Part) → exists (same_part p) ps ≡ true → f p ≡ true
unfolding every exists
every_part f [] e p h = absurd (false≢true h)
every_part f (q ∷ qs) e p h =
    go (same_part p q) refl h (λ k. every_part f qs (and_right (f q) (every f qs) e) p k)
  where
    go : (t : Bool) → same_part p q ≡ t → t || exists (same_part p) qs ≡ true → (exists (same_part p) qs ≡ true → f p ≡ true) → f p ≡ true
    go true s h ih = subst (λ x. f x ≡ true) (sym (same_part_true p q s)) (and_left (f q) (every f qs) e)
    go false s h ih = ih h
