-- `begins_with` compares where the block starts. Assumes nothing.
use mathlib.Core.Path.{ap}
use lib.Dec.{eqb}
use Rattle.examiner.proofs.heads.begins_with.Goals as goal

pub returns : goal.returns
returns c = ap (λ n. eqb n c.args.first) c.block_start.ensures
