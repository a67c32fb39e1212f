-- What a call says of a signed number that was handed to it: the number arrives as its bits, read back. Assumes nothing.
use Prim.Native.Nat.{◌<◌, ◌^◌}
use mathlib.Core.Path.{◌≡◌, sym, ap, ◌∙◌}
use lib.IntN.{ℤ}
use lib.Signed.{mag}
use Rattle.numbers.proofs.Laws.{back32}
use mir.Facts.{to_z-of_z}
use mir.Syntax.{w32}
use mir.Val.{SFits, to_z, of_z}

-- f of the function's own parameter z, where a call gave r
pub said : {A : Type 0} (f : ℤ → A) {z : ℤ} {r b : A} → SFits w32 z → r ≡ f (to_z w32 (of_z w32 z)) → r ≡ b → f z ≡ b
said f fit e g = sym (ap f (to_z-of_z fit)) ∙ sym e ∙ g

-- f of what an earlier call gave, z, which is w
pub said_of : {A : Type 0} (f : ℤ → A) {z w : ℤ} {r : A} → mag z < 2 ^ 31 → z ≡ w → r ≡ f (to_z w32 (of_z w32 z)) → r ≡ f w
said_of f fit e g = g ∙ ap f (to_z-of_z {w = w32} (record { sfits = fit }) ∙ e)

-- the same with two and with three numbers
pub said_of2 : {A : Type 0} (f : ℤ → ℤ → A) {x u y w : ℤ} {r : A}
    → mag x < 2 ^ 31 → x ≡ u → mag y < 2 ^ 31 → y ≡ w → r ≡ f (to_z w32 (of_z w32 x)) (to_z w32 (of_z w32 y)) → r ≡ f u w
said_of2 f {x} {u} {y} {w} p e q g h = h ∙ rw (back32 x p, e, back32 y q, g)

pub said_of3 : {A : Type 0} (f : ℤ → ℤ → ℤ → A) {x u y w z t : ℤ} {r : A}
    → mag x < 2 ^ 31 → x ≡ u → mag y < 2 ^ 31 → y ≡ w → mag z < 2 ^ 31 → z ≡ t
    → r ≡ f (to_z w32 (of_z w32 x)) (to_z w32 (of_z w32 y)) (to_z w32 (of_z w32 z)) → r ≡ f u w t
said_of3 f {x} {u} {y} {w} {z} {t} p e q g o k h = h ∙ rw (back32 x p, e, back32 y q, g, back32 z o, k)

-- f of the function's own parameter z is what a call gave
pub said_own : {A : Type 0} (f : ℤ → A) {z : ℤ} {r : A} → SFits w32 z → r ≡ f (to_z w32 (of_z w32 z)) → r ≡ f z
said_own f fit e = e ∙ ap f (to_z-of_z fit)
