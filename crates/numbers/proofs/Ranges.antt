-- Laws of the order of signed numbers, of the range of 01's numbers and of values held to a range. Assumes nothing.
use mathlib.Core.Path.{◌≡◌, refl, sym, ◌∙◌}
use mathlib.Core.Bool.{Bool, true, false, not, cond, ◌&&◌, false≢true}
use Prim.Native.Nat.{ℕ, ◌+◌, ◌<◌, ◌≤◌, ◌^◌}
use native.Mathlib.Omega.{arith}
use borrow.Author.Tests.{ltb-true, ltb-false, leb-true, le-ltb, le-leb, lt-leb}
use lib.Dec.{ltb, leb}
use lib.IntN.{ℤ, pos, negsuc}
use lib.Signed.{mag, lt_z, le_z}
use mir.Syntax.{w32}
use mir.Val.{SFits}
use Rattle.sizes.specs.Sizes.{MOST}
use Rattle.numbers.specs.Hold.{hold_z}
use Rattle.numbers.specs.Range.{within, in_range, lowest, highest}
use Rattle.numbers.proofs.Laws.{mag_between}

-- each test of order is the other one's opposite, the other way round
le_not_ltb : (a b : ℕ) (t : Bool) → ltb b a ≡ t → leb a b ≡ not t
le_not_ltb a b true e = lt-leb a b (ltb-true b a e)
le_not_ltb a b false e = le-leb a b (ltb-false b a e)

pub le_not_lt : (x y : ℤ) → le_z x y ≡ not (lt_z y x)
le_not_lt (pos a) (pos b) = le_not_ltb a b (ltb b a) refl
le_not_lt (pos a) (negsuc b) = refl
le_not_lt (negsuc a) (pos b) = refl
le_not_lt (negsuc a) (negsuc b) = le_not_ltb b a (ltb a b) refl

not_not : (t : Bool) → not (not t) ≡ t
not_not true = refl
not_not false = refl

pub lt_not_le : (x y : ℤ) → lt_z x y ≡ not (le_z y x)
lt_not_le x y = sym (not_not (lt_z x y)) ∙ rw (← le_not_lt y x)

pub le_of_not_lt : (x y : ℤ) → lt_z y x ≡ false → le_z x y ≡ true
le_of_not_lt x y t = le_not_lt x y ∙ rw t

pub not_le_of_lt : (x y : ℤ) → lt_z y x ≡ true → le_z x y ≡ false
not_le_of_lt x y t = le_not_lt x y ∙ rw t

pub not_lt_of_le : (x y : ℤ) → le_z x y ≡ true → lt_z y x ≡ false
not_lt_of_le x y t = lt_not_le y x ∙ rw t

pub lt_of_not_le : (x y : ℤ) → le_z x y ≡ false → lt_z y x ≡ true
lt_of_not_le x y t = lt_not_le y x ∙ rw t

pub lt_z_irrefl : (x : ℤ) → lt_z x x ≡ false
lt_z_irrefl (pos x) = le-ltb x x (omega arith)
lt_z_irrefl (negsuc x) = le-ltb x x (omega arith)

pub le_z_refl : (x : ℤ) → le_z x x ≡ true
le_z_refl x = le_of_not_lt x x (lt_z_irrefl x)

pub le_z_trans : (x y z : ℤ) → le_z x y ≡ true → le_z y z ≡ true → le_z x z ≡ true
le_z_trans (pos x) (pos y) (pos z) p q = le-leb x z (omega (arith, leb-true x y p, leb-true y z q))
le_z_trans (pos x) (pos y) (negsuc z) p q = absurd (false≢true q)
le_z_trans (pos x) (negsuc y) z p q = absurd (false≢true p)
le_z_trans (negsuc x) y (pos z) p q = refl
le_z_trans (negsuc x) (pos y) (negsuc z) p q = absurd (false≢true q)
le_z_trans (negsuc x) (negsuc y) (negsuc z) p q = le-leb z x (omega (arith, leb-true y x p, leb-true z y q))

-- what a test for a range says, and what proves it
both : (s t : Bool) → s && t ≡ true → (s ≡ true) × (t ≡ true)
both true true e = (refl, refl)
both true false e = absurd (false≢true e)
both false t e = absurd (false≢true e)

module _ (low x high : ℤ) where
  pub within_low : within low x high ≡ true → le_z low x ≡ true
  unfolding within
  within_low e = (both (le_z low x) (le_z x high) e).0

  pub within_high : within low x high ≡ true → le_z x high ≡ true
  unfolding within
  within_high e = (both (le_z low x) (le_z x high) e).1

  pub within_both : le_z low x ≡ true → le_z x high ≡ true → within low x high ≡ true
  unfolding within
  within_both p q = rw (p, q)

  pub within_mag : (B : ℕ) → mag low < B → mag high < B → within low x high ≡ true → mag x < B
  within_mag B f g e = mag_between B low x high (not_lt_of_le low x (within_low e)) (not_lt_of_le x high (within_high e)) f g

-- a narrower range lies in a wider one
pub within_wider : (least low x high most : ℤ) → le_z least low ≡ true → le_z high most ≡ true → within low x high ≡ true
    → within least x most ≡ true
within_wider least low x high most p q e =
    within_both least x most (le_z_trans least low x p (within_low low x high e)) (le_z_trans x high most (within_high low x high e) q)

-- a number of 01's range fits an i32
pub in_range_mag : (x : ℤ) → in_range x ≡ true → mag x ≤ MOST
unfolding in_range
in_range_mag x e = let h = within_mag lowest x highest (MOST + 1) (omega arith) (omega arith) e in omega arith

pub in_range_fits : (x : ℤ) → in_range x ≡ true → mag x < 2 ^ 31
in_range_fits x e = let h = in_range_mag x e in omega arith

pub in_range_sfits : (x : ℤ) → in_range x ≡ true → SFits w32 x
in_range_sfits x e = record { sfits = in_range_fits x e }

-- what lies between two numbers of 01's range is in it
pub between_in_range : (low x high : ℤ) → in_range low ≡ true → in_range high ≡ true → within low x high ≡ true → in_range x ≡ true
unfolding in_range
between_in_range low x high p q e =
    within_wider lowest low x high highest (within_low lowest low highest p) (within_high lowest high highest q) e

-- what is held lies in its range, and a value of the range is held as it is
module _ (v low high : ℤ) where
  held_within : (s t : Bool) → lt_z v low ≡ s → lt_z high v ≡ t → le_z low high ≡ true
      → within low (cond s low (cond t high v)) high ≡ true
  held_within true t p q r = within_both low low high (le_z_refl low) r
  held_within false true p q r = within_both low high high r (le_z_refl high)
  held_within false false p q r = within_both low v high (le_of_not_lt low v p) (le_of_not_lt v high q)

  pub hold_within : le_z low high ≡ true → within low (hold_z v low high) high ≡ true
  unfolding hold_z
  hold_within r = held_within (lt_z v low) (lt_z high v) refl refl r

  pub hold_same : within low v high ≡ true → hold_z v low high ≡ v
  unfolding hold_z
  hold_same e = rw (not_lt_of_le low v (within_low low v high e), not_lt_of_le v high (within_high low v high e))

  pub hold_in_range : in_range low ≡ true → in_range high ≡ true → le_z low high ≡ true → in_range (hold_z v low high) ≡ true
  hold_in_range p q r = between_in_range low (hold_z v low high) high p q (hold_within r)
