-- `stopped` zeroes the lent trace. Assumes nothing.
use Rattle.replaying.proofs.Telling.{told_none}
use Rattle.replaying.proofs.stopped.Goals as goal

pub returns : goal.returns
returns c = let a = c.args in told_none a.number a.state a.trace.now _ c.clear_from.ensures
