-- `discard_checked`: on an accepted chart value the call is the one on its chart. Assumes nothing.
use Rattle.chart_engine.proofs.ByRules.{discards}
use Rattle.chart_engine.proofs.checked.discard_checked.Goals as goal

pub returns : goal.returns
returns c = discards c.requires c.discard_ruled.ensures
