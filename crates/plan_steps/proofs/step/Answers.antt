-- `step` fires the chosen of the event. Assumes nothing.
use native.Mathlib.Omega.{arith}
use mir.Facts.{to_z-of_z}
use Rattle.plan_steps.proofs.Settling.{all_heads, step_here}
use Rattle.plan_steps.proofs.step.Goals as goal

pub fire_all-requires : goal.fire_all-requires
fire_all-requires c = (all_heads c.args.widget.now c.choose-count.ensures, c.requires)

pub returns : goal.returns
returns c = rw (to_z-of_z c.ranges.arg) at (step_here c.args.widget.now c.choose-count.ensures _ c.fire_all.ensures)
