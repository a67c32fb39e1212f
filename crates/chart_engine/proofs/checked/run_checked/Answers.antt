-- `run_checked`: on an accepted chart value the call is the one on its chart. Assumes nothing.
use Rattle.chart_engine.proofs.ByRules.{runs}
use Rattle.chart_engine.proofs.checked.run_checked.Goals as goal

pub returns : goal.returns
returns c = runs c.requires c.run_ruled.ensures
