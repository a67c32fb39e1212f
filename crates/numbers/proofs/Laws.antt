-- Laws of signed numbers that proofs cite: what tests say, what fits.
use Rattle.std.specs.Prelude.{None, Some}
use mathlib.Core.Path.{◌≡◌, refl, sym, ap, ◌∙◌}
use mathlib.Core.Bool.{Bool, true, false, cond, true≢false, false≢true}
use Prim.Native.Nat.{ℕ, suc, ◌+◌, ◌-◌, ◌<◌, ◌^◌}
use native.Mathlib.Omega.{arith}
use Rattle.numbers.specs.Equal.{eq_z}
use borrow.Author.Tests.{eq-eqb, ne_eqb, eqb-true, eqb-false, ltb-true, ltb-false}
use lib.Dec.{T, ltb, eqb}
use lib.IntN.{ℤ, pos, negsuc, nat_abs, ◌+ℤ◌}
use lib.Signed.{mag, lt_z, non_neg}
use mir.Syntax.{w32, w64}
use mir.Val.{SFits, Fits, to_z, of_z}
use mir.Facts.{to_z-of_z}
use Rattle.numbers.specs.Place.{place_of}
use Rattle.numbers.specs.Reference.{ref, NOWHERE}

-- what lies between two numbers that fit, fits
pub mag_between : (B : ℕ) (lo v hi : ℤ) → lt_z v lo ≡ false → lt_z hi v ≡ false → mag lo < B → mag hi < B → mag v < B
mag_between B lo (pos v) (pos hi) p q f g = omega (arith, ltb-false hi v q)
mag_between B lo (pos v) (negsuc hi) p q f g = absurd (true≢false q)
mag_between B (pos lo) (negsuc v) hi p q f g = absurd (true≢false p)
mag_between B (negsuc lo) (negsuc v) hi p q f g = omega (arith, ltb-false lo v p)

-- the size of a sum
mag_sub : (B a b : ℕ) (t : Bool) → a < B → b < B → mag (cond t (negsuc (suc b - suc a)) (pos (a - suc b))) < B
mag_sub B a b true f g = omega arith
mag_sub B a b false f g = omega arith

pub mag_add : (B : ℕ) (x y : ℤ) → mag x < B → mag y < B → mag (x +ℤ y) < B + B
mag_add B (pos a) (pos b) f g = omega arith
mag_add B (pos a) (negsuc b) f g = omega (arith, mag_sub B a b (ltb a (suc b)) f g)
mag_add B (negsuc a) (pos b) f g = omega (arith, mag_sub B b a (ltb b (suc a)) g f)
mag_add B (negsuc a) (negsuc b) f g = omega arith

pub fits_between : {lo v hi : ℤ} → lt_z v lo ≡ false → lt_z hi v ≡ false → SFits w32 lo → SFits w32 hi → SFits w32 v
fits_between {lo} {v} {hi} p q f g = record { sfits = mag_between (2 ^ 31) lo v hi p q f.sfits g.sfits }

pub fits_sum : {x y : ℤ} → SFits w32 x → SFits w32 y → SFits w64 (x +ℤ y)
fits_sum {x} {y} f g = record { sfits = omega (arith, mag_add (2 ^ 31) x y f.sfits g.sfits) }

-- a signed number that was written to its bits and read back, by its range as a call's `.ok` gives it
pub back32 : (z : ℤ) → mag z < 2 ^ 31 → to_z w32 (of_z w32 z) ≡ z
back32 z h = to_z-of_z {w = w32} (record { sfits = h })

pub back64 : (z : ℤ) → mag z < 2 ^ 63 → to_z w64 (of_z w64 z) ≡ z
back64 z h = to_z-of_z {w = w64} (record { sfits = h })

-- a number that a test found to be 0 or more, as an unsigned one
pub cast_up : (x : ℤ) → lt_z x (pos 0) ≡ false → mag x < 2 ^ 31 → T (non_neg x) × Fits w64 (nat_abs x)
cast_up (pos n) t f = (tt, record { fits = omega arith })
cast_up (negsuc n) t f = absurd (true≢false t)

pub place_some : (x : ℤ) → lt_z x (pos 0) ≡ false → Some (nat_abs x) ≡ place_of x
place_some (pos n) t = refl
place_some (negsuc n) t = absurd (true≢false t)

pub place_none : (x : ℤ) → lt_z x (pos 0) ≡ true → None ≡ place_of x
place_none (pos n) t = let h = ltb-true n 0 t in absurd (omega arith)
place_none (negsuc n) t = refl

-- a number that names something, and one below 0
pub ref_some : (x : ℤ) → lt_z x (pos 0) ≡ false → nat_abs x ≡ ref x
ref_some (pos n) t = refl
ref_some (negsuc n) t = absurd (true≢false t)

pub ref_none : (x : ℤ) → lt_z x (pos 0) ≡ true → NOWHERE ≡ ref x
ref_none (pos n) t = let h = ltb-true n 0 t in absurd (omega arith)
ref_none (negsuc n) t = refl

-- the test for equality
pub eq_z_refl : (x : ℤ) → eq_z x x ≡ true
eq_z_refl (pos n) = eq-eqb n n refl
eq_z_refl (negsuc n) = eq-eqb n n refl

pub eq_z_ne : (x y : ℤ) → (x ≡ y → ⊥) → eq_z x y ≡ false
eq_z_ne (pos a) (pos b) h = ne_eqb a b (λ e. h (ap pos e))
eq_z_ne (pos a) (negsuc b) h = refl
eq_z_ne (negsuc a) (pos b) h = refl
eq_z_ne (negsuc a) (negsuc b) h = ne_eqb a b (λ e. h (ap negsuc e))

pub eq_z_true : (x y : ℤ) → eq_z x y ≡ true → x ≡ y
eq_z_true (pos a) (pos b) t = ap pos (eqb-true a b t)
eq_z_true (pos a) (negsuc b) t = absurd (false≢true t)
eq_z_true (negsuc a) (pos b) t = absurd (false≢true t)
eq_z_true (negsuc a) (negsuc b) t = ap negsuc (eqb-true a b t)

pub eq_z_false : (x y : ℤ) → eq_z x y ≡ false → x ≡ y → ⊥
eq_z_false x y t e = true≢false (sym (eq_z_refl y) ∙ rw e at t)

-- a test `x == y` of signed numbers, which a branch has of their bits
pub same_bits : (x y : ℤ) → mag x < 2 ^ 31 → mag y < 2 ^ 31 → of_z w32 x ≡ of_z w32 y → x ≡ y
same_bits x y f g e = sym (back32 x f) ∙ ap (to_z w32) e ∙ back32 y g

pub test_eq : (x y : ℤ) → mag x < 2 ^ 31 → mag y < 2 ^ 31 → of_z w32 x ≡ of_z w32 y → eq_z x y ≡ true
test_eq x y f g e = rw (same_bits x y f g e) (eq_z_refl y)

pub test_ne : (x y : ℤ) → (of_z w32 x ≡ of_z w32 y → ⊥) → eq_z x y ≡ false
test_ne x y h = eq_z_ne x y (λ e. h (ap (of_z w32) e))

pub test_bits : (x y : ℤ) → mag x < 2 ^ 31 → mag y < 2 ^ 31 → eqb (of_z w32 x) (of_z w32 y) ≡ eq_z x y
test_bits x y f g = go (eqb (of_z w32 x) (of_z w32 y)) refl
  where
    go : (t : Bool) → eqb (of_z w32 x) (of_z w32 y) ≡ t → t ≡ eq_z x y
    go true e = sym (test_eq x y f g (eqb-true (of_z w32 x) (of_z w32 y) e))
    go false e = sym (test_ne x y (eqb-false (of_z w32 x) (of_z w32 y) e))
