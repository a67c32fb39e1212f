-- `target_by` tries the letter h, then "-". Assumes nothing.
use mathlib.Core.Bool.{Bool}
use mathlib.Core.Path.{◌≡◌, refl}
use Rattle.numbers.specs.Reference.{ref}
use Rattle.meaning.specs.Value.{is_letter, is_absent, target_by}
use Rattle.chart_rows.proofs.Said.{said}
use Rattle.chart_rows.proofs.decode.target_by.Goals.{After-is_absent, After-is_letter}
use Rattle.chart_rows.proofs.decode.target_by.Goals as goal

h : (c : After-is_letter) {b : Bool} → c.is_letter.result ≡ b → is_letter 104 c.args.h ≡ b
h c e = said (is_letter 104) c.ranges.h c.is_letter.ensures e

absent : (c : After-is_absent) {b : Bool} → c.is_absent.result ≡ b → is_absent c.args.h ≡ b
absent c e = said (is_absent) c.ranges.h c.is_absent.ensures e

pub returns-then-is_letter : goal.returns-then-is_letter
unfolding target_by
returns-then-is_letter c = rw (h c.before.before c.if-is_letter.true, said ref c.ranges.s c.reference.ensures refl)

pub returns-then-is_absent : goal.returns-then-is_absent
unfolding target_by
returns-then-is_absent c = rw (h c.before.before.before c.if-is_letter.false, absent c.before c.if-is_absent.true)

pub returns-else-is_absent : goal.returns-else-is_absent
unfolding target_by
returns-else-is_absent c = rw (
  h c.before.before.before.before c.if-is_letter.false,
  absent c.before.before
      c.if-is_absent.false,
  said ref c.ranges.s c.reference-else-is_absent.ensures refl,
)
