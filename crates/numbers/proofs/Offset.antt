-- A signed number as a natural one, moved up by B: the bridge by which `omega` proves orders and equations of ℤ.
use mathlib.Core.Path.{◌≡◌, refl, ap}
use mathlib.Core.Bool.{Bool, true, false, cond, true≢false, false≢true}
use Prim.Native.Nat.{ℕ, suc, ◌+◌, ◌-◌, ◌<◌, ◌≤◌}
use native.Mathlib.Omega.{arith}
use borrow.Author.Tests.{ltb-true, ltb-false, lt-ltb, le-ltb}
use lib.Dec.{ltb}
use lib.IntN.{ℤ, pos, negsuc, ◌+ℤ◌}
use lib.Signed.{mag, lt_z}

abbrev pub off : ℕ → ℤ → ℕ
off B (pos n) = B + n
off B (negsuc n) = B - suc n

-- a test that held, and one that failed
pub off_lt : (B : ℕ) (x y : ℤ) → mag x < B → mag y < B → lt_z x y ≡ true → off B x < off B y
off_lt B (pos x) (pos y) f g t = omega (arith, ltb-true x y t)
off_lt B (pos x) (negsuc y) f g t = absurd (false≢true t)
off_lt B (negsuc x) (pos y) f g t = omega arith
off_lt B (negsuc x) (negsuc y) f g t = omega (arith, ltb-true y x t)

pub off_le : (B : ℕ) (x y : ℤ) → mag x < B → mag y < B → lt_z x y ≡ false → off B y ≤ off B x
off_le B (pos x) (pos y) f g t = omega (arith, ltb-false x y t)
off_le B (pos x) (negsuc y) f g t = omega arith
off_le B (negsuc x) (pos y) f g t = absurd (true≢false t)
off_le B (negsuc x) (negsuc y) f g t = omega (arith, ltb-false y x t)

-- and back
pub lt_off : (B : ℕ) (x y : ℤ) → mag x < B → mag y < B → off B x < off B y → lt_z x y ≡ true
lt_off B (pos x) (pos y) f g h = lt-ltb x y (omega arith)
lt_off B (pos x) (negsuc y) f g h = absurd (omega arith)
lt_off B (negsuc x) (pos y) f g h = refl
lt_off B (negsuc x) (negsuc y) f g h = lt-ltb y x (omega arith)

pub le_off : (B : ℕ) (x y : ℤ) → mag x < B → mag y < B → off B y ≤ off B x → lt_z x y ≡ false
le_off B (pos x) (pos y) f g h = le-ltb x y (omega arith)
le_off B (pos x) (negsuc y) f g h = refl
le_off B (negsuc x) (pos y) f g h = absurd (omega arith)
le_off B (negsuc x) (negsuc y) f g h = le-ltb y x (omega arith)

pub off_inj : (B : ℕ) (x y : ℤ) → mag x < B → mag y < B → off B x ≡ off B y → x ≡ y
off_inj B (pos x) (pos y) f g h = let e : x ≡ y = omega arith in ap pos e
off_inj B (pos x) (negsuc y) f g h = absurd (omega arith)
off_inj B (negsuc x) (pos y) f g h = absurd (omega arith)
off_inj B (negsuc x) (negsuc y) f g h = let e : x ≡ y = omega arith in ap negsuc e

-- a sum
off_sub : (B a b : ℕ) (t : Bool) → ltb a (suc b) ≡ t → a < B → b < B
    → off (B + B) (cond t (negsuc (suc b - suc a)) (pos (a - suc b))) ≡ (B + a) + (B - suc b)
off_sub B a b true e f g = omega (arith, ltb-true a (suc b) e)
off_sub B a b false e f g = omega (arith, ltb-false a (suc b) e)

pub off_add : (B : ℕ) (x y : ℤ) → mag x < B → mag y < B → off (B + B) (x +ℤ y) ≡ off B x + off B y
off_add B (pos a) (pos b) f g = omega arith
off_add B (pos a) (negsuc b) f g = off_sub B a b (ltb a (suc b)) refl f g
off_add B (negsuc a) (pos b) f g = omega (arith, off_sub B b a (ltb b (suc a)) refl g f)
off_add B (negsuc a) (negsuc b) f g = omega arith
