-- `reader::order::put_count` meets its contract: each way out is a law of the files beside. Assumes nothing.
use Rattle.reader.proofs.OrderLaws.{count_set, count_none}
use Rattle.reader.proofs.order.put_count.Goals as goal

pub returns-then-chart-at : goal.returns-then-chart-at
returns-then-chart-at c = count_none _ _ _ c.if-chart-at.true

pub returns : goal.returns
returns c =
    count_set c.args.chart.now c.args.at _ _ c.number-z.ensures
    c.requires
