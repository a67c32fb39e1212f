-- `put_field`: a tab, then what the field says. Assumes nothing.
use Rattle.writer.proofs.CellLaws.{field_put}
use Rattle.writer.proofs.cells.put_field.Goals as goal

pub returns-clause-written : goal.returns-clause-written
returns-clause-written c = field_put _ _ _ _ c.put.ensures.written c.put_said.ensures.written
