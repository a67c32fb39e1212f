-- `heads_at` is the place after the variables. Assumes nothing.
use mathlib.Core.Path.{refl}
use Rattle.meaning.specs.WellFormed.{heads_at}
use Rattle.plan_rows.proofs.heads_at.Goals as goal

pub returns : goal.returns
unfolding heads_at
returns c = refl
