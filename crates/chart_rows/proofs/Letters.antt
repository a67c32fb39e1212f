-- Looking for a number among letters: `any` of std says what the definition says; and the number as a byte, which is a letter or not.
-- Assumes nothing.
use Prim.Native.Nat.{ℕ, ◌<◌}
use mathlib.Core.Path.{◌≡◌, refl, ap, ◌∙◌}
use mathlib.Core.Bool.{false, ◌||◌}
use mathlib.Core.List.{List, [], ◌∷◌}
use native.Mathlib.Omega.{arith}
use borrow.Author.Tests.{ne_eqb}
use lib.IntN.{ℤ, pos, negsuc, nat_abs}
use mir.Facts.{to_z-of_z}
use mir.Syntax.{w32}
use mir.Val.{SFits, to_z, of_z}
use Rattle.std.specs.Int.{FitsUnsignedBits}
use Rattle.std.specs.List.{list_any}
use Rattle.std.specs.Prelude.{Result, Ok, Err}
use Rattle.std.specs.Result.{OkIff}
use Rattle.meaning.specs.Value.{is_letter, one_of_letters}

pub any_letter : (ls : List ℕ) (z : ℤ) → list_any (λ l. is_letter l z) ls ≡ one_of_letters ls z
any_letter [] z = refl
any_letter (l ∷ ls) z = ap (λ b. is_letter l z || b) (any_letter ls z)

byte : (z : ℤ) (n : ℕ) → FitsUnsignedBits 8 z × (n ≡ nat_abs z) → z ≡ pos n
byte (pos k) n h = ap pos (cc h.1)
byte (negsuc k) n h = absurd h.0

other : (z : ℤ) (n l : ℕ) → z ≡ pos n → (n ≡ l → ⊥) → is_letter l z ≡ false
other z n l e d = rw e (ne_eqb n l d)

none : {E : Type 0} (r : Result ℕ E) (e : E) (z : ℤ) (l : ℕ) → OkIff r (FitsUnsignedBits 8 z) (nat_abs z) → r ≡ Err e → l < 256 → is_letter l z ≡ false
none (Ok n) e z l h w b = cc
none (Err x) e (pos k) l h w b = ne_eqb k l (λ q. h (omega arith))
none (Err x) e (negsuc k) l h w b = refl

module _ {z : ℤ} (fit : SFits w32 z) where
  -- the number is the byte l
  pub letter_is : {n : ℕ} → FitsUnsignedBits 8 (to_z w32 (of_z w32 z)) × (n ≡ nat_abs (to_z w32 (of_z w32 z))) → (l : ℕ) → n ≡ l → z ≡ pos l
  letter_is {n} h l e = byte z n (rw (to_z-of_z fit) at h) ∙ ap pos e

  -- it is another byte
  pub letter_not : {n : ℕ} → FitsUnsignedBits 8 (to_z w32 (of_z w32 z)) × (n ≡ nat_abs (to_z w32 (of_z w32 z)))
      → (l : ℕ) → (n ≡ l → ⊥) → is_letter l z ≡ false
  letter_not {n} h l d = other z n l (byte z n (rw (to_z-of_z fit) at h)) d

  -- it is no byte
  pub no_letter : {E : Type 0} {r : Result ℕ E} {e : E} → OkIff r (FitsUnsignedBits 8 (to_z w32 (of_z w32 z))) (nat_abs (to_z w32 (of_z w32 z)))
      → r ≡ Err e → (l : ℕ) → l < 256 → is_letter l z ≡ false
  no_letter {r = r} {e = e} h w l b = none r e z l (rw (to_z-of_z fit) at h) w b
