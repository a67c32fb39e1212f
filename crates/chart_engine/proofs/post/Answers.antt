-- `post` checks the rules first. Assumes nothing.
use mathlib.Core.Path.{refl}
use mir.Facts.{to_z-of_z}
use Rattle.meaning.proofs.Refusals.{not_done}
use Rattle.chart_engine.proofs.ByRules.{accepted, post_3}
use Rattle.chart_engine.proofs.post.Goals as goal

pub returns-in-Err : goal.returns-in-Err
returns-in-Err c = post_3 c.in-Err.ensures (not_done c.in-Err.refusal) (rw (c.number.ensures, c.place.ensures) at c.refused.ensures)

pub post_checked-requires : goal.post_checked-requires
post_checked-requires c = accepted c.in_default.ensures refl

pub returns : goal.returns
returns c = rw (to_z-of_z c.ranges.event, to_z-of_z c.ranges.arg) at c.post_checked.ensures
