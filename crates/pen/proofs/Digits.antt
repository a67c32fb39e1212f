-- How many digits a number has. Assumes nothing.
use mathlib.Core.Path.{◌≡◌, refl}
use mathlib.Core.Bool.{Bool, true, false}
use Prim.Native.Nat.{ℕ, zero, suc, ◌*◌, ◌/◌, ◌≤◌, ◌<◌, ◌^◌}
use native.Mathlib.Omega.{arith}
use native.Mathlib.Nat.{pow-suc}
use lib.Dec.{ltb}
use lib.IntN.{ℤ, pos, negsuc}
use lib.Signed.{mag}
use lib.ListN.{length, length-append}
use borrow.Author.Tests.{ltb-true, ltb-false}
use Rattle.meaning.specs.Number.{digits, numeral}
use Rattle.round_trip.proofs.Numbers.{digits_one, digits_more}

-- a number below 10^(k + 1) has at most k + 1 digits
tenth_below : (k n : ℕ) → n < 10 ^ suc k → n / 10 < 10 ^ k
tenth_below k n h = let e : 10 ^ suc k ≡ 10 ^ k * 10 = pow-suc 10 k in omega arith

pub digits_length : (k n : ℕ) → n < 10 ^ suc k → length (digits n) ≤ suc k
digits_length zero n h = rw (digits_one n h) (omega arith)
digits_length (suc k) n h = go (ltb n 10) refl (digits_length k (n / 10) (tenth_below (suc k) n h))
  where
    go : (t : Bool) → ltb n 10 ≡ t → length (digits (n / 10)) ≤ suc k → length (digits n) ≤ suc (suc k)
    go true e ih = rw (digits_one n (ltb-true n 10 e)) (omega arith)
    go false e ih = rw (digits_more n (ltb-false n 10 e)) (simp length-append (omega arith))

-- a signed number of 32 bits has at most ten digits, and a minus
pub numeral_length : (z : ℤ) → mag z < 2 ^ 31 → length (numeral z) ≤ 11
unfolding numeral
numeral_length (pos n) h = omega (arith, digits_length 9 n (omega arith))
numeral_length (negsuc n) h = omega (arith, digits_length 9 (suc n) (omega arith))
