-- `step` fires the chosen of the event. Assumes nothing.
use lib.ListN.{length-replicate}
use mir.Facts.{to_z-of_z}
use Rattle.sizes.specs.Sizes.{TRANSITIONS}
use Rattle.choice.specs.declared.Pick.{Pick}
use Rattle.choice.specs.Choice.{free}
use Rattle.reaction.proofs.Settling.{step_here, chose_fires}
use Rattle.reaction.proofs.steps.step.Goals as goal

pub choose-count-requires : goal.choose-count-requires
choose-count-requires c = (c.args.c.now.prepared.ruled, length-replicate {A = Pick} TRANSITIONS free)

pub fire_all-requires : goal.fire_all-requires
fire_all-requires c = (c.requires, chose_fires c.choose-count.ensures)

pub returns : goal.returns
returns c = rw (to_z-of_z c.ranges.arg) at (step_here _ c.choose-count.ensures _ c.fire_all.ensures)
