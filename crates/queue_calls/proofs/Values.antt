-- The variables of a started state, one at a time: those that the chart has in their ranges, the others 0. Assumes nothing.
use mathlib.Core.Path.{◌≡◌, refl, sym, ap, ◌∙◌}
use Prim.Native.Nat.{ℕ, zero, suc, ◌+◌, ◌≤◌, ◌<◌, ◌^◌}
use mathlib.Core.Bool.{Bool, true, false, cond, ◌&&◌}
use mathlib.Core.List.{List}
use native.Mathlib.Omega.{arith}
use native.Mathlib.Numerals.{add-one}
use borrow.Author.Tests.{lt-ltb, le-ltb, ltb-true, ltb-false}
use lib.Dec.{ltb, eqb}
use lib.Signed.{mag}
use mir.Syntax.{w32}
use mir.Val.{of_z}
use lib.IntN.{ℤ, pos}
use lib.ListN.{length, get_or, drop, drop_of_length-le}
use lib.Seq.{drop-cons}
use Rattle.numbers.specs.Equal.{eq_z}
use Rattle.numbers.specs.Range.{within}
use Rattle.numbers.proofs.Laws.{eq_z_refl, eq_z_ne, eq_z_true, eq_z_false, test_bits}
use Rattle.meaning.specs.declared.chart.VarRow.{VarRow}
use Rattle.meaning.specs.Chart.{no_var}
use Rattle.std.proofs.Math.Bool.{and_assoc}
use Rattle.meaning.specs.Lists.{every, from}
use Rattle.meaning.specs.Tree.{var_row}
use Rattle.meaning.specs.Rules.{within_row}
use Rattle.meaning.specs.Foreign.{values_fit}
use Rattle.queue_calls.specs.Parts.{value_fits}

-- ---- a test `x == y` of signed numbers, where the definitions have y before x

other_way : (x y : ℤ) (b : Bool) → eq_z x y ≡ b → b ≡ eq_z y x
other_way x y true e = rw (eq_z_true x y e) (sym (eq_z_refl y))
other_way x y false e = sym (eq_z_ne y x (λ q. eq_z_false x y e (sym q)))

pub test_turned : (x y : ℤ) → mag x < 2 ^ 31 → mag y < 2 ^ 31 → eqb (of_z w32 x) (of_z w32 y) ≡ eq_z y x
test_turned x y f g = test_bits x y f g ∙ other_way x y (eq_z x y) refl

-- ---- one variable

module _ (rs : List VarRow) (v : ℕ) (x : ℤ) {n : ℕ} (l : n ≡ length rs) where
  pub value_there : v < n → {row : VarRow} → row ≡ var_row rs v → within row.low x row.high ≡ value_fits rs v x
  unfolding value_fits within within_row
  value_there h e = rw (lt-ltb v (length rs) (omega arith), e)

  pub value_unused : n ≤ v → eq_z (pos 0) x ≡ value_fits rs v x
  unfolding value_fits
  value_unused h = rw (le-ltb v (length rs) (omega arith))

-- ---- from v on

module _ (rs : List VarRow) (xs : List ℤ) (v : ℕ) where
  values_at : v < length xs → values_fit (drop v rs) (drop v xs)
      ≡ (value_fits rs v (get_or xs v (pos 0)) && values_fit (drop (v + 1) rs) (drop (v + 1) xs))
  unfolding values_fit value_fits var_row every
  values_at h = go (ltb v (length rs)) refl
    where
      go : (b : Bool) → ltb v (length rs) ≡ b
          → values_fit (drop v rs) (drop v xs) ≡ (cond b (within_row (get_or rs v no_var) (get_or xs v (pos 0)))
          (eq_z (pos 0) (get_or xs v (pos 0))) && values_fit (drop (v + 1) rs) (drop (v + 1) xs))
      go true e = rw (add-one v, drop-cons xs v (pos 0) h, drop-cons rs v no_var (ltb-true v (length rs) e))
      go false e =
          let m : length rs ≤ v = ltb-false v (length rs) e in
          let m' : length rs ≤ suc v = omega arith in
          rw (add-one v, drop-cons xs v (pos 0) h, drop_of_length-le rs m, drop_of_length-le rs m')

-- k of the variables from v on, and then the rest
pub values_from : (rs : List VarRow) (xs : List ℤ) (k v : ℕ) → v + k ≤ length xs → values_fit (drop v rs) (drop v xs)
    ≡ (every (λ i. value_fits rs i (get_or xs i (pos 0))) (from v k) && values_fit (drop (v + k) rs) (drop (v + k) xs))
unfolding every from
values_from rs xs zero v h = let z : v + 0 ≡ v = omega arith in rw z refl
values_from rs xs (suc k) v h =
    let z : v + suc k ≡ suc v + k = omega arith in
    let p : ℕ → Bool = λ i. value_fits rs i (get_or xs i (pos 0)) in
    let e : values_fit (drop v rs) (drop v xs) ≡ (p v && values_fit (drop (suc v) rs) (drop (suc v) xs)) =
    rw add-one at (values_at rs xs v (omega arith)) in
    rw z (e ∙ ap (λ b. p v && b) (values_from rs xs k (suc v) (omega arith))
    ∙ sym (and_assoc (p v) (every p (from (suc v) k)) (values_fit (drop (suc v + k) rs) (drop (suc v + k) xs))))

-- the variables that the chart has, and the others
module _ (rs : List VarRow) (xs : List ℤ) {n : ℕ} (l : length rs ≤ n) (m : n ≤ length xs) where
  pub values_by : {b : Bool} → b ≡ every (λ i. value_fits rs i (get_or xs i (pos 0))) (from 0 n)
      → (b && every (eq_z (pos 0)) (drop n xs)) ≡ values_fit rs xs
  unfolding values_fit
  values_by {b} e =
      let z : 0 + n ≡ n = omega arith in
      rw e (sym ((rw z at (values_from rs xs n 0 (rw z m))) ∙ rw (drop_of_length-le rs l) refl))
