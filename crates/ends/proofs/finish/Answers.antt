-- `finish` gives the outcome of the steps. Assumes nothing.
use mathlib.Core.Path.{refl}
use Rattle.ends.proofs.Ending.{ends_no, ends_on}
use Rattle.ends.proofs.finish.Goals as goal

pub returns-in-Err : goal.returns-in-Err
returns-in-Err c =
    rw c.in-Err.is (ends_no _ _ _ _ _ _ (rw c.number.ensures at c.refused.ensures) c.clear_from.ensures)

pub returns-in-Ok : goal.returns-in-Ok
returns-in-Ok c =
    rw c.in-Ok.is (ends_on _ _ _ _ _ _ (rw c.in-Ok.is at c.requires) refl c.clear_from-in-Ok.ensures)
