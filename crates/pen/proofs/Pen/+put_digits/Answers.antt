-- `put_digits` writes `digits`. The measure of the recursion is the number. Assumes nothing.
use Rattle.pen.proofs.Laws.{digits_put_one, digits_put_more}
use Rattle.pen.proofs.Pen.+put_digits.Goals as goal

pub returns-then-n-lt10-clause-written : goal.returns-then-n-lt10-clause-written
returns-then-n-lt10-clause-written t c = digits_put_one _ _ _ c.if-n-lt10.true c.put.ensures.written

pub returns-else-n-lt10-clause-written : goal.returns-else-n-lt10-clause-written
returns-else-n-lt10-clause-written t c =
    digits_put_more _ _ _ _ c.if-n-lt10.false c.put_digits.ensures.written c.put-else-n-lt10.ensures.written
