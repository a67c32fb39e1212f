-- `start` examines the plan first. Assumes nothing.
use mathlib.Core.Path.{refl}
use Rattle.ends.proofs.Ending.{ends_as}
use Rattle.meaning.proofs.Refusals.{not_done}
use Rattle.machine.proofs.Gates.{was_examined, start_5, start_is}
use Rattle.machine.proofs.start.Goals as goal

pub returns-in-Err : goal.returns-in-Err
returns-in-Err c =
    let a = c.args in
    ends_as a.trace.now (start_5 a.plan.now c.in-Err.ensures a.state
    (not_done c.in-Err.refusal) _) c.refuse.ensures

pub start_examined-requires : goal.start_examined-requires
start_examined-requires c =
    was_examined c.args.plan.now
    c.in_default.ensures refl
    c.counts.ensures

pub returns : goal.returns
returns c =
    let a = c.args in
    ends_as a.trace.now (start_is a.plan.now
    c.in_default.ensures a.state
    refl _) c.start_examined.ensures
