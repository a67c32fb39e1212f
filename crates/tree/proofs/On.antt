-- The proper descendants of a state are the numbers that follow it, up to the first whose parent comes before the state. Assumes nothing.
use mathlib.Core.Path.{◌≡◌, refl, sym, ap, ◌∙◌}
use mathlib.Core.Logic.{◌⊎◌, inl, inr, ⊎_elim}
use Prim.Native.Nat.{ℕ, zero, suc, ◌+◌, ◌-◌, ◌≤◌, ◌<◌}
use mathlib.Core.Bool.{true≢false}
use native.Mathlib.Omega.{arith}
use native.Mathlib.Nat.{eq-or-lt_of_le}
use lib.ListN.{length}
use Rattle.laws.proofs.Preorder.{Run, sub_run, sub_kept, linear}
use Rattle.laws.proofs.Tree.{has_under, under_has, under_lt}
use Rattle.laws.specs.Facts.{Ordered, Under, child, deeper}
use Rattle.meaning.specs.Chart.{Chart}
use Rattle.meaning.specs.Lists.{from, has}
use Rattle.meaning.specs.Tree.{ancestors, descendants, parent_of}

pub length_from : (a n : ℕ) → length (from a n) ≡ n
unfolding from
length_from a zero = refl
length_from a (suc n) = ap suc (length_from (suc a) n)

module _ (c : Chart) (o : Ordered c) (s : ℕ) (h : s < length c.states) where
  rest : suc s + (length c.states - suc s) ≡ length c.states
  rest = omega arith

  run : Run (λ d. has s (ancestors c d)) (suc s) (length c.states - suc s)
  run = sub_run c o s (length c.states - suc s) rest

  many_is : length (descendants c s) ≡ run.k
  unfolding run
  many_is = ap length (sub_kept c o s (length c.states - suc s) rest) ∙ length_from (suc s) run.k

  pub end_within : suc s + length (descendants c s) ≤ length c.states
  end_within = omega (arith, many_is, run.fits)

  inside : (x : ℕ) → s < x → x < suc s + length (descendants c s) → Under c s x
  inside x l g = has_under c s x (run.inside x (omega arith) (omega (arith, many_is)))

  outside : (x : ℕ) → suc s + length (descendants c s) ≤ x → x < length c.states → Under c s x → ⊥
  outside x l g u = true≢false (sym (under_has c o s x u) ∙ run.outside x (omega (arith, many_is)) (omega arith))

  parent_of_inside : (x : ℕ) → Under c s x → s ≤ parent_of c x
  parent_of_inside zero u = elim u [ ]
  parent_of_inside (suc n) (child e) = omega arith
  parent_of_inside (suc n) (deeper u) = omega (arith, under_lt c o u)

  -- the number after s or after one under it, whose parent does not come before s, is under s
  next_inside : (x : ℕ) → s ≤ x → suc x < length c.states → (s ≡ x) ⊎ Under c s x → s ≤ parent_of c (suc x) → Under c s (suc x)
  next_inside x l g b p = ⊎_elim same above (o.follows x g)
    where
      same : parent_of c (suc x) ≡ x → Under c s (suc x)
      same e = ⊎_elim (λ q. child (e ∙ sym q)) (λ u. deeper (rw e u)) b

      over : Under c (parent_of c (suc x)) s → Under c s (suc x)
      over u = absurd (omega (arith, under_lt c o u))

      above : Under c (parent_of c (suc x)) x → Under c s (suc x)
      above u = ⊎_elim
          (λ q. over (rw q u))
          (λ v. ⊎_elim (λ q. child q) (λ w. ⊎_elim over (λ y. deeper y) w) (linear u v))
          b

  -- ---- one step of the loop

  pub end_more : (d : ℕ) → s < d → d < length c.states
      → d ≤ suc s + length (descendants c s) → s ≤ parent_of c d → suc d ≤ suc s + length (descendants c s)
  end_more zero l g m p = absurd (omega arith)
  end_more (suc x) l g m p = ⊎_elim
      (λ e. absurd (outside (suc x) (omega arith) g (next_inside x (omega arith) g last p)))
      (λ e. e)
      (eq-or-lt_of_le m)
    where
      last : (s ≡ x) ⊎ Under c s x
      last = ⊎_elim (λ e. inl (omega arith)) (λ e. inr (inside x (omega arith) (omega arith))) (eq-or-lt_of_le l)

  pub end_here : (d : ℕ) → s < d → d ≤ suc s + length (descendants c s) → parent_of c d < s → d ≡ suc s + length (descendants c s)
  end_here d l m p = ⊎_elim (λ e. e) (λ e. absurd (omega (arith, parent_of_inside d (inside d l e)))) (eq-or-lt_of_le m)

  pub end_last : (d : ℕ) → d ≤ suc s + length (descendants c s) → length c.states ≤ d → d ≡ suc s + length (descendants c s)
  end_last d m p = omega (arith, end_within)
