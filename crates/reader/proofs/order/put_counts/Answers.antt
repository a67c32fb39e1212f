-- `reader::order::put_counts` meets its contract: each way out is a law of the files beside. Assumes nothing.
use Rattle.reader.proofs.OrderLaws.{counts_set}
use Rattle.reader.proofs.order.put_counts.Goals as goal

pub returns : goal.returns
returns c =
    counts_set _ _ _ _ _ _
    c.put_count.ensures
    c.put_count-2.ensures
    c.put_count-3.ensures c.put_count-4.ensures
