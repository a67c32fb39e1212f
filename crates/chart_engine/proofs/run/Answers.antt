-- `run` checks the rules first. Assumes nothing.
use mathlib.Core.Path.{refl}
use Rattle.meaning.proofs.Refusals.{not_done}
use Rattle.chart_engine.proofs.ByRules.{accepted, run_3}
use Rattle.chart_engine.proofs.run.Goals as goal

pub returns-in-Err : goal.returns-in-Err
returns-in-Err c =
    run_3 c.in-Err.ensures (not_done c.in-Err.refusal)
    c.refuse.ensures

pub run_checked-requires : goal.run_checked-requires
run_checked-requires c = accepted c.in_default.ensures refl

pub returns : goal.returns
returns c = c.run_checked.ensures
