-- `add_to` reads the row of the variable. Assumes nothing.
use mir.Facts.{to_z-of_z}
use Rattle.plan_code.proofs.Executing.{row_there, row_is, var_below}
use Rattle.plan_code.proofs.add_to.Goals as goal

pub var_row-requires : goal.var_row-requires
var_row-requires c = row_there c.args.plan.now c.args.v c.requires.0

pub add-requires : goal.add-requires
add-requires c =
    (var_below c.args.plan.now c.args.v c.requires.0, c.requires.1)

pub returns : goal.returns
returns c = rw (to_z-of_z c.ranges.x, row_is c.args.plan.now c.args.v c.requires.0 c.var_row.ensures) at c.add.ensures
