-- `fields::cells::among` meets its contract. Assumes nothing.
use Rattle.std.proofs.Common.{◌∙◌}
use Rattle.fields.proofs.CellLaws.{has_any}
use Rattle.fields.proofs.cells.among.Goals as goal

pub returns : goal.returns
returns c = c.contains.ensures.value ∙ has_any _ _
