-- Holding a value at one past the range changes no answer: the number that is read is the exact one, of any length. Assumes nothing.
use mathlib.Core.Path.{◌≡◌, refl, sym, ap, ◌∙◌}
use mathlib.Core.Bool.{Bool, true, false, cond}
use mathlib.Core.List.{List, [], ◌∷◌}
use Rattle.std.proofs.Common.{Option, None, Some}
use Prim.Native.Nat.{ℕ, ◌+◌, ◌-◌, ◌*◌, ◌≤◌, ◌<◌, min}
use native.Mathlib.Omega.{arith}
use lib.Dec.{ltb}
use borrow.Author.Tests.{ltb-true, ltb-false, lt-ltb, le-ltb}
use Rattle.sizes.specs.Sizes.{MOST}
use Rattle.meaning.specs.Number.{BEYOND, value, capped}

-- the exact value of digits that follow those of value a
unfoldable pub exact : ℕ → List ℕ → Option ℕ
exact a [] = Some a
exact a (b ∷ bs) = cond (ltb b 48) None (cond (ltb 57 b) None (exact (a * 10 + (b - 48)) bs))

-- a byte is a digit or none
pub data Byte (b : ℕ) : Type 0 where
  digit : 48 ≤ b → b ≤ 57 → Byte b
  below : b < 48 → Byte b
  above : 57 < b → Byte b

pub byte : (b : ℕ) → Byte b
byte b = go (ltb b 48) (ltb 57 b) refl refl
  where
    go : (s t : Bool) → ltb b 48 ≡ s → ltb 57 b ≡ t → Byte b
    go true t p q = below (ltb-true b 48 p)
    go false true p q = above (ltb-true 57 b q)
    go false false p q = digit (ltb-false b 48 p) (ltb-false 57 b q)

capped_at : (a : ℕ) → capped (Some (min BEYOND a)) ≡ capped (Some a)
unfolding capped
capped_at a = go (ltb MOST a) refl
  where
    go : (t : Bool) → ltb MOST a ≡ t → capped (Some (min BEYOND a)) ≡ capped (Some a)
    go true e = let h = ltb-true MOST a e in let k : min BEYOND a ≡ BEYOND = omega arith in rw (k, e)
    go false e = let h = ltb-false MOST a e in let k : min BEYOND a ≡ a = omega arith in rw k

pub value_exact : (a : ℕ) (bs : List ℕ) → capped (value (min BEYOND a) bs) ≡ capped (exact a bs)
unfolding value exact
value_exact a [] = capped_at a
value_exact a (b ∷ bs) = go (byte b) (λ n. value_exact n bs)
  where
    go : Byte b → ((n : ℕ) → capped (value (min BEYOND n) bs) ≡ capped (exact n bs))
        → capped (value (min BEYOND a) (b ∷ bs)) ≡ capped (exact a (b ∷ bs))
    go (Byte.digit p q) ih =
        let k : min BEYOND (min BEYOND a * 10 + (b - 48)) ≡ min BEYOND (a * 10 + (b - 48)) = omega arith in
        rw (le-ltb b 48 p, le-ltb 57 b q, k) (ih (a * 10 + (b - 48)))
    go (Byte.below p) ih = rw (lt-ltb b 48 p)
    go (Byte.above p) ih = rw (lt-ltb 57 b p, le-ltb b 48 (omega arith))
