-- `kids_within` stops where no state is left. Assumes nothing.
use Rattle.blocks.proofs.KidsLeft.{kids_left, kids_none}
use Rattle.blocks.proofs.kids.kids_within.Goals as goal

pub returns-then-left-eq0 : goal.returns-then-left-eq0
returns-then-left-eq0 c = kids_none _ _ _ _ c.if-left-eq0.true c.requires.1

pub returns : goal.returns
returns c = kids_left _ _ _ _ _ _ c.if-left-eq0.false c.goes_on.ensures
