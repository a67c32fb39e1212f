-- `told` zeroes the trace past the last run's. Assumes nothing.
use Rattle.replaying.proofs.Telling.{told_all}
use Rattle.replaying.proofs.told.Goals as goal

pub returns : goal.returns
returns c = let a = c.args in told_all a.done a.number a.at a.state a.trace.now _ c.requires c.clear_from.ensures
