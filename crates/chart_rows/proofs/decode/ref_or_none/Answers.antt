-- `ref_or_none` is 0 for "-", and else the reference. Assumes nothing.
use mathlib.Core.Bool.{Bool}
use mathlib.Core.Path.{◌≡◌, refl}
use Rattle.numbers.specs.Reference.{ref}
use Rattle.meaning.specs.Value.{is_absent, ref_or_none}
use Rattle.chart_rows.proofs.Said.{said}
use Rattle.chart_rows.proofs.decode.ref_or_none.Goals.{After-is_absent}
use Rattle.chart_rows.proofs.decode.ref_or_none.Goals as goal

absent : (c : After-is_absent) {b : Bool} → c.is_absent.result ≡ b → is_absent c.args.z ≡ b
absent c e = said (is_absent) c.ranges.z c.is_absent.ensures e

pub returns-then-is_absent : goal.returns-then-is_absent
unfolding ref_or_none
returns-then-is_absent c = rw (absent c.before c.if-is_absent.true)

pub returns-else-is_absent : goal.returns-else-is_absent
unfolding ref_or_none
returns-else-is_absent c = rw (
  absent c.before.before c.if-is_absent.false,
  said ref c.ranges.z c.reference.ensures refl,
)
