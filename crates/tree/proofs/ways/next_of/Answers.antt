-- `next_of` goes by the goal. Assumes nothing.
use Rattle.tree.proofs.Among.{goal_target, goal_here, goal_owner}
use Rattle.tree.proofs.ways.next_of.Goals as goal

pub returns-then-s-b : goal.returns-then-s-b
returns-then-s-b c = goal_here _ _ _ _ c.in-Owner.is c.if-s-b.true

pub returns-in-Target : goal.returns-in-Target
returns-in-Target c = goal_target _ _ _ _ c.next_to.result c.in-Target.is c.next_to.ensures

pub returns-else-s-b : goal.returns-else-s-b
returns-else-s-b c =
    goal_owner _ _ _ _ c.next_to-in-Owner.result c.in-Owner.is
    c.if-s-b.false c.next_to-in-Owner.ensures
