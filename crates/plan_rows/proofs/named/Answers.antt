-- `named` is the reference of the number at its place. Assumes nothing.
use Rattle.numbers.specs.Reference.{ref}
use Rattle.chart_rows.proofs.Said.{said_of}
use Rattle.plan_rows.proofs.named.Goals as goal

pub returns : goal.returns
returns c = said_of ref c.read.type_inv c.read.ensures c.reference.ensures
