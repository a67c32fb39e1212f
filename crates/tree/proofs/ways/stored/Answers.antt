-- `stored` goes by what the slot holds. Assumes nothing.
use Rattle.tree.proofs.Among.{stored_on, stored_stop}
use Rattle.tree.proofs.ways.stored.Goals as goal

pub returns-in-Some : goal.returns-in-Some
returns-in-Some c = stored_on _ _ _ _ c.slot_of-place.ensures c.in-Some.is

pub returns-in-None : goal.returns-in-None
returns-in-None c = stored_stop _ _ _ c.slot_of-place.ensures c.in-None.is
