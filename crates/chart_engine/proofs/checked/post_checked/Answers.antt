-- `post_checked`: on an accepted chart value the call is the one on its chart. Assumes nothing.
use mir.Facts.{to_z-of_z}
use Rattle.chart_engine.proofs.ByRules.{posts}
use Rattle.chart_engine.proofs.checked.post_checked.Goals as goal

pub returns : goal.returns
returns c = posts c.requires (rw (to_z-of_z c.ranges.event, to_z-of_z c.ranges.arg) at c.post_ruled.ensures)
