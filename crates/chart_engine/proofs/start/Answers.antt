-- `start` checks the rules first. Assumes nothing.
use mathlib.Core.Path.{refl}
use Rattle.meaning.proofs.Refusals.{not_done}
use Rattle.chart_engine.proofs.ByRules.{accepted, start_3}
use Rattle.chart_engine.proofs.start.Goals as goal

pub returns-in-Err : goal.returns-in-Err
returns-in-Err c =
    start_3 c.in-Err.ensures (not_done c.in-Err.refusal)
    c.refuse.ensures

pub start_checked-requires : goal.start_checked-requires
start_checked-requires c = accepted c.in_default.ensures refl

pub returns : goal.returns
returns c = c.start_checked.ensures
