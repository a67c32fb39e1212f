-- `next_row` reads what the index says of the row. Assumes nothing.
use Rattle.acts.proofs.Finding.{next_read}
use Rattle.acts.proofs.index.Runnable.next_row.Goals as goal

pub returns : goal.returns
returns c =
    (next_read _ _ c.args.self.now.prepared.indexed _ c.action_count.ensures _ c.requires).1
