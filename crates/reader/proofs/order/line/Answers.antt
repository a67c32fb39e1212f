-- `reader::order::line`: a line is read as the kind that its letter names, and is wrong where it names none. Assumes nothing.
use Rattle.reader.proofs.OrderLaws.{line_unnamed}
use Rattle.reader.proofs.order.line.Goals as goal

pub returns-in_default : goal.returns-in_default
returns-in_default c = line_unnamed _ _ _ _ c.in_default.ensures
