-- `put_numeral` writes `numeral`: a minus where the number is below 0, and the digits of its size. Assumes nothing.
use mir.Facts.{to_z-of_z}
use Rattle.pen.proofs.Laws.{numeral_minus, numeral_plain}
use Rattle.pen.proofs.Pen.put_numeral.Goals as goal

pub returns-then-v-lt0-clause-written : goal.returns-then-v-lt0-clause-written
returns-then-v-lt0-clause-written c =
    let v = to_z-of_z c.ranges.v in
    numeral_minus _ _ _ _ (rw v at c.unsigned_abs-n.ensures.value) _ (rw v at c.if-v-lt0.true) c.put.ensures.written c.put_digits.ensures.written

pub returns-else-v-lt0-clause-written : goal.returns-else-v-lt0-clause-written
returns-else-v-lt0-clause-written c =
    let v = to_z-of_z c.ranges.v in
    numeral_plain _ _ _ _ (rw v at c.unsigned_abs-n.ensures.value) (rw v at c.if-v-lt0.false) c.put_digits-else-v-lt0.ensures.written
