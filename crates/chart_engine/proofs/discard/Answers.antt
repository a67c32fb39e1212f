-- `discard` checks the rules first. Assumes nothing.
use mathlib.Core.Path.{refl}
use Rattle.meaning.proofs.Refusals.{not_done}
use Rattle.chart_engine.proofs.ByRules.{accepted, discard_3}
use Rattle.chart_engine.proofs.discard.Goals as goal

pub returns-in-Err : goal.returns-in-Err
returns-in-Err c = discard_3 c.in-Err.ensures (not_done c.in-Err.refusal) (rw (c.number.ensures, c.place.ensures) at c.refused.ensures)

pub discard_checked-requires : goal.discard_checked-requires
discard_checked-requires c = accepted c.in_default.ensures refl

pub returns : goal.returns
returns c = c.discard_checked.ensures
