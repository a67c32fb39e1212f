-- `next_to` asks for the child on the way to the target. Assumes nothing.
use Rattle.tree.proofs.Among.{path_on, path_off}
use Rattle.tree.proofs.ways.next_to.Goals as goal

pub returns-in-Some : goal.returns-in-Some
returns-in-Some c = path_on _ _ _ _ _ c.path_child-place.ensures c.in-Some.is

pub returns-in-None : goal.returns-in-None
returns-in-None c = path_off _ _ _ _ c.path_child-place.ensures c.in-None.is
