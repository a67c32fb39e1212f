-- `perform` does what the act says. Assumes nothing.
use Rattle.std.proofs.Common.{rules}
use mir.Syntax.{w32}
use mir.Val.{SFits}
use mir.Facts.{to_z-of_z}
use Rattle.widget.proofs.Effects.{act_set, act_add, act_take, act_send, act_tell}
use Rattle.widget.proofs.perform.Goals as goal

pub returns-in-SetTo : goal.returns-in-SetTo
returns-in-SetTo c =
    let x : SFits w32 c.in-SetTo.x = search rules in
    act_set c.args.row c.args.arg c.in-SetTo.is (rw (to_z-of_z x) at c.assign.ensures)

pub returns-in-AddTo : goal.returns-in-AddTo
returns-in-AddTo c =
    let x : SFits w32 c.in-AddTo.x = search rules in
    act_add c.args.row c.args.arg c.in-AddTo.is (rw (to_z-of_z x) at c.add.ensures)

pub returns-in-TakeTo : goal.returns-in-TakeTo
returns-in-TakeTo c = act_take c.args.row c.args.arg c.in-TakeTo.is (rw (to_z-of_z c.ranges.arg) at c.assign-in-TakeTo.ensures)

pub returns-in-Send : goal.returns-in-Send
returns-in-Send c =
    let x : SFits w32 c.in-Send.x = search rules in
    act_send c.args.row c.args.arg c.in-Send.is (rw (to_z-of_z x) at c.send.ensures)

pub returns-in-Tell : goal.returns-in-Tell
returns-in-Tell c =
    let x : SFits w32 c.in-Tell.x = search rules in
    act_tell c.args.row c.args.arg c.in-Tell.is (rw (to_z-of_z x) at (c.tell.ensures c.args.widget.now))
