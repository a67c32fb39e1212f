-- `run` examines the plan first. Assumes nothing.
use mathlib.Core.Path.{refl}
use Rattle.ends.proofs.Ending.{ends_as}
use Rattle.meaning.proofs.Refusals.{not_done}
use Rattle.machine.proofs.Gates.{was_examined, run_5, run_is}
use Rattle.machine.proofs.run.Goals as goal

pub returns-in-Err : goal.returns-in-Err
returns-in-Err c =
    let a = c.args in
    ends_as a.trace.now (run_5 a.plan.now c.in-Err.ensures a.state
    (not_done c.in-Err.refusal) _) c.refuse.ensures

pub run_examined-requires : goal.run_examined-requires
run_examined-requires c =
    was_examined c.args.plan.now
    c.in_default.ensures refl
    c.counts.ensures

pub returns : goal.returns
returns c =
    let a = c.args in
    ends_as a.trace.now (run_is a.plan.now
    c.in_default.ensures a.state
    refl _) c.run_examined.ensures
