-- `start_checked`: on an accepted chart value the call is the one on its chart. Assumes nothing.
use Rattle.chart_engine.proofs.ByRules.{starts}
use Rattle.chart_engine.proofs.checked.start_checked.Goals as goal

pub returns : goal.returns
returns c = starts c.requires c.start_ruled.ensures
