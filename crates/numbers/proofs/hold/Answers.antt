-- `hold` gives the nearer end of the range; between the ends the value fits, so that the cast is exact. Assumes nothing.
use mathlib.Core.Path.{◌≡◌}
use mathlib.Core.Bool.{Bool}
use Rattle.numbers.specs.Hold.{hold_z}
use Rattle.numbers.proofs.Laws.{fits_between, back64}
use lib.Signed.{lt_z}
use mir.Facts.{to_z-of_z}
use mir.Syntax.{w32, w64}
use mir.Val.{SFits, to_z, of_z}
use Rattle.numbers.proofs.hold.Goals.{After-wide, After-wide-2, Else-wide-value}
use Rattle.numbers.proofs.hold.Goals as goal

-- the tests, of the numbers themselves
below : (c : After-wide) {b : Bool}
    → lt_z (to_z w64 (of_z w64 c.args.value)) (to_z w64 (of_z w64 c.wide.result)) ≡ b
    → lt_z c.args.value c.args.low ≡ b
below c t = rw (
  to_z-of_z c.ranges.value,
  back64 c.wide.result c.wide.type_inv,
  c.wide.ensures,
  to_z-of_z c.ranges.low,
) at t

above : (c : After-wide-2) {b : Bool}
    → lt_z (to_z w64 (of_z w64 c.wide-2.result)) (to_z w64 (of_z w64 c.args.value)) ≡ b
    → lt_z c.args.high c.args.value ≡ b
above c t = rw (
  to_z-of_z c.ranges.value,
  back64 c.wide-2.result c.wide-2.type_inv,
  c.wide-2.ensures,
  to_z-of_z c.ranges.high,
) at t

pub returns-then-value-wide : goal.returns-then-value-wide
unfolding hold_z
returns-then-value-wide c = rw (to_z-of_z c.ranges.low, below c.before c.if-value-wide.true)

pub returns-then-wide-value : goal.returns-then-wide-value
unfolding hold_z
returns-then-wide-value c =
    rw (
      to_z-of_z c.ranges.high,
      below c.before.before.before c.if-value-wide.false,
      above c.before c.if-wide-value.true,
    )

-- between the ends, the value fits
within : (c : Else-wide-value) → SFits w32 c.args.value
within c =
    fits_between (below c.before.before.before c.if-value-wide.false) (above c.before c.if-wide-value.false)
    c.ranges.low c.ranges.high

pub overflow_cast-result : goal.overflow_cast-result
overflow_cast-result c = rw (to_z-of_z c.ranges.value) (within c)

pub returns : goal.returns
unfolding hold_z
returns c =
    rw (
      to_z-of_z c.ranges.value,
      to_z-of_z (within c),
      below c.before.before.before c.if-value-wide.false,
      above c.before c.if-wide-value.false,
    )
