-- `onward_to` goes by the goal and, at the owner of a history, by its slot. Assumes nothing.
use Rattle.tree.proofs.Aiming.{onward_target, onward_past, onward_owner}
use Rattle.tree.proofs.ways.onward_to.Goals as goal

pub returns-in_default : goal.returns-in_default
returns-in_default c = onward_target _ _ c.in_default.is

pub returns-then-s-b : goal.returns-then-s-b
returns-then-s-b c = onward_past _ _ c.in-Owner.is c.if-s-b.true

pub returns-in_default-slot_of : goal.returns-in_default-slot_of
returns-in_default-slot_of c =
    onward_owner _ _ c.in-Owner.is c.if-s-b.false c.slot_of.ensures
    c.in_default-slot_of.is

pub returns : goal.returns
returns c =
    onward_owner _ _ c.in-Owner.is c.if-s-b.false c.slot_of.ensures
    c.in-None.is
