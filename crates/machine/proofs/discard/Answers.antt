-- `discard` examines the plan first. Assumes nothing.
use mathlib.Core.Path.{refl, sym, ap, ◌∙◌}
use Rattle.meaning.specs.Calls.{called}
use Rattle.meaning.proofs.Refusals.{not_done}
use Rattle.machine.proofs.Gates.{was_examined, discard_5, discard_is}
use Rattle.machine.proofs.discard.Goals as goal

pub returns-in-Err : goal.returns-in-Err
returns-in-Err c =
    let a = c.args in
    (rw (c.number.ensures, c.place.ensures) at c.refused.ensures) ∙ ap called
    (sym (discard_5 a.plan.now c.in-Err.ensures a.state
    (not_done c.in-Err.refusal)))

pub discard_examined-requires : goal.discard_examined-requires
discard_examined-requires c =
    was_examined c.args.plan.now
    c.in_default.ensures refl c.counts.ensures

pub returns : goal.returns
returns c =
    let a = c.args in
    c.discard_examined.ensures ∙ ap called
    (sym (discard_is a.plan.now c.in_default.ensures a.state
    refl))
