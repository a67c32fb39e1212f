-- `known` takes a number that names something for itself. Assumes nothing.
use mathlib.Core.Path.{◌≡◌, sym, ap, ◌∙◌, subst}
use Prim.Native.Nat.{◌<◌}
use lib.IntN.{nat_abs}
use lib.Signed.{lt_z}
use mathlib.Core.Bool.{false}
use lib.IntN.{pos}
use Rattle.numbers.specs.Reference.{ref, NOWHERE}
use Rattle.numbers.proofs.Laws.{back32, cast_up, ref_some}
use Rattle.plan_choice.proofs.Tests.{not_below}
use Rattle.plan_choice.proofs.known.Goals.{After-read}
use Rattle.plan_choice.proofs.known.Goals as goal

names : (c : After-read) → lt_z c.read.result (pos 0) ≡ false
names c = not_below c.read.result (subst (λ z. ref z < NOWHERE) (sym c.read.ensures) c.requires.1)

pub overflow_cast-result : goal.overflow_cast-result
overflow_cast-result c = rw (back32 c.read.result c.read.type_inv) (cast_up c.read.result (names c) c.read.type_inv)

pub returns : goal.returns
returns c = ap nat_abs (back32 c.read.result c.read.type_inv) ∙ ref_some c.read.result (names c) ∙ ap ref c.read.ensures
