-- `slot_of` reads a slot. Assumes nothing.
use Rattle.numbers.proofs.Laws.{back32}
use Rattle.tree.proofs.Among.{slot_read}
use Rattle.tree.proofs.ways.slot_of.Goals as goal

pub returns : goal.returns
returns c =
    slot_read c.args.slots.now _ c.requires.0 c.requires.1
    _ (back32 _ c.place_of-arg-1.given) _ c.place_of.ensures
