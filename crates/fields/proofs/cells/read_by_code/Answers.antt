-- `fields::cells::read_by_code`: a code of no field is wrong. Assumes nothing.
use Rattle.fields.proofs.CellLaws.{letter_none}
use Rattle.fields.proofs.cells.read_by_code.Goals as goal

pub returns-in-None : goal.returns-in-None
returns-in-None c = letter_none _ _ _ c.in-None.ensures
