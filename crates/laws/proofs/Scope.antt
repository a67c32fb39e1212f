-- The scope of a transition in a chart that passes the rules: an o state, a proper ancestor of source and target, and the lowest
-- such. Assumes nothing.
use mathlib.Core.Path.{◌∙◌, ◌≡◌, ap, refl, subst, sym}
use mathlib.Core.Logic.{⊎_elim}
use Prim.Native.Nat.{◌<◌, suc, zero, ℕ}
use native.Mathlib.Omega.{arith}
use mathlib.Core.Bool.{Bool, ◌&&◌, ◌||◌, cond, false, false≢true, true, true≢false}
use mathlib.Core.List.{List, [], ◌∷◌}
use lib.ListN.{length}
use lib.Dec.{eqb}
use borrow.Author.Tests.{eq-eqb, eqb-true}
use Rattle.laws.proofs.Lists.{and_both, and_left, and_right, or_cases, or_left, or_right}
use Rattle.laws.proofs.Rules.{o_inside, o_of, of_o}
use Rattle.laws.proofs.Sound.{SoundChart}
use Rattle.laws.proofs.Tree.{has_under, under_has}
use Rattle.laws.specs.Facts.{Ordered, Under, child, deeper}
use Rattle.meaning.specs.Chart.{Chart}
use Rattle.meaning.specs.Lists.{first_that, has}
use Rattle.meaning.specs.Tree.{ancestors, is_o, kind_of, parent_of, scope}
use Rattle.meaning.specs.declared.chart.Kind.TheVariants.{O as kind_o}

-- the root is above every other state
above_by : (c : Chart) (n p : ℕ) → parent_of c (suc n) ≡ p → ((m : ℕ) → p ≡ suc m → Under c 0 (suc m)) → Under c 0 (suc n)
above_by c n zero e h = child e
above_by c n (suc m) e h = deeper (subst (Under c 0) (sym e) (h m refl))

above_all : (c : Chart) → Ordered c → (b n : ℕ) → n < b → Under c 0 (suc n)
above_all c o zero n l = absurd (omega arith)
above_all c o (suc b) n l = above_by c n (parent_of c (suc n)) refl (λ m e. above_all c o b m (omega (arith, o.falls n)))

pub root_above : (c : Chart) → Ordered c → (s : ℕ) → 0 < s → Under c 0 s
root_above c o zero l = absurd (omega arith)
root_above c o (suc n) l = above_all c o (suc n) n (omega arith)

-- the first that a test finds, where it finds one
pub first_found : (p : ℕ → Bool) (xs : List ℕ) (x : ℕ)
    → has x xs ≡ true → p x ≡ true → (p (first_that p xs) ≡ true) × (has (first_that p xs) xs ≡ true)
unfolding first_that has
first_found p [] x h e = absurd (false≢true h)
first_found p (y ∷ ys) x h e = go (p y) refl (λ q. first_found p ys x q e)
  where
    go : (b : Bool) → p y ≡ b → (has x ys ≡ true → (p (first_that p ys) ≡ true) × (has (first_that p ys) ys ≡ true))
        → (p (cond b y (first_that p ys)) ≡ true) × ((eqb (cond b y (first_that p ys)) y || has (cond b y (first_that p ys)) ys) ≡ true)
    go true q ih = (q, or_left (eqb y y) (has y ys) (eq-eqb y y refl))
    go false q ih = ⊎_elim
        (λ r. absurd (true≢false (sym e ∙ ap p (eqb-true x y r) ∙ q)))
        (λ r. ((ih r).0, or_right (eqb (first_that p ys) y) (has (first_that p ys) ys) (ih r).1))
        (or_cases (eqb x y) (has x ys) h)

pub record ScopeFacts (c : Chart) (s t x : ℕ) : Type 0 where
  pub kind : kind_of c x ≡ kind_o
  pub inside : x < length c.states
  pub above_source : Under c x s
  pub above_target : Under c x t

pub scope_facts : (c : Chart) → SoundChart c → (s t : ℕ) → 0 < s → 0 < t → ScopeFacts c s t (scope c s t)
unfolding scope
scope_facts c h s t l m =
    let f = first_found (λ x. is_o (kind_of c x) && has x (ancestors c t))
    (ancestors c s) 0 (under_has c h.ordered 0 s (root_above c h.ordered s l))
    (and_both (is_o (kind_of c 0)) (has 0 (ancestors c t))
    (of_o _ h.root_o) (under_has c h.ordered 0 t (root_above c h.ordered t m))) in
    let x = first_that (λ y. is_o (kind_of c y) && has y (ancestors c t)) (ancestors c s) in
    let k = o_of _ (and_left (is_o (kind_of c x)) (has x (ancestors c t)) f.0) in
    record {
      kind = k;
      inside = o_inside c x k;
      above_source = has_under c x s f.1;
      above_target = has_under c x t (and_right (is_o (kind_of c x)) (has x (ancestors c t)) f.0);
    }
