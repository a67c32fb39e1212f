-- `first_row` reads what the index says of the owner. Assumes nothing.
use Rattle.acts.proofs.Finding.{first_read}
use Rattle.acts.proofs.index.Runnable.first_row.Goals as goal

pub returns : goal.returns
returns c =
    (first_read _ _ c.args.self.now.prepared.indexed _ c.action_count.ensures c.args.owner c.requires _ c.key_of.ensures).1
