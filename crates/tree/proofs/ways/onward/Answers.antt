-- `onward` goes by the course. Assumes nothing.
use Rattle.tree.proofs.Aiming.{onward_as}
use Rattle.tree.proofs.ways.onward.Goals as goal

pub returns-in-Towards : goal.returns-in-Towards
returns-in-Towards c = onward_as _ _ c.in-Towards.is c.onward_to.ensures
