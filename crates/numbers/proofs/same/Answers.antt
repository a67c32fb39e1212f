-- `same` compares bits, and equal bits are equal numbers. Assumes nothing.
use Rattle.numbers.proofs.Laws.{test_bits}
use Rattle.numbers.proofs.same.Goals as goal

pub returns : goal.returns
returns c = test_bits c.args.x c.args.y c.ranges.x.sfits c.ranges.y.sfits
