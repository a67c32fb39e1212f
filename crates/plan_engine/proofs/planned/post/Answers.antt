-- `post` says by name what the machine says. Assumes nothing.
use mir.Facts.{to_z-of_z}
use Rattle.plan_engine.proofs.planned.post.Goals as goal

pub returns : goal.returns
returns c = record { result = rw (to_z-of_z c.ranges.event, to_z-of_z c.ranges.arg) at c.post.ensures }
