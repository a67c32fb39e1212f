-- `is_absent` compares with the mark of "-". Assumes nothing.
use Rattle.std.proofs.Common.{lit<}
use Rattle.numbers.proofs.Laws.{test_bits}
use Rattle.meaning.specs.Value.{ABSENT, is_absent}
use Rattle.chart_rows.proofs.decode.is_absent.Goals as goal

pub returns : goal.returns
unfolding is_absent
returns c = test_bits c.args.z ABSENT c.ranges.z.sfits (lit< tt)
