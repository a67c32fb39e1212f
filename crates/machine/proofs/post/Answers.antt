-- `post` examines the plan first. Assumes nothing.
use mathlib.Core.Path.{refl, sym, ap, ◌∙◌}
use mir.Facts.{to_z-of_z}
use Rattle.meaning.specs.Calls.{called}
use Rattle.meaning.proofs.Refusals.{not_done}
use Rattle.machine.proofs.Gates.{was_examined, post_5, post_is}
use Rattle.machine.proofs.post.Goals as goal

pub returns-in-Err : goal.returns-in-Err
returns-in-Err c =
    let a = c.args in
    (rw (c.number.ensures, c.place.ensures) at c.refused.ensures) ∙ ap called
    (sym (post_5 a.plan.now c.in-Err.ensures a.state
    (not_done c.in-Err.refusal) a.event a.arg))

pub post_examined-requires : goal.post_examined-requires
post_examined-requires c =
    was_examined c.args.plan.now
    c.in_default.ensures refl c.counts.ensures

pub returns : goal.returns
returns c =
    let a = c.args in
    (rw (to_z-of_z c.ranges.event, to_z-of_z c.ranges.arg) at
    c.post_examined.ensures)
    ∙ ap called (sym (post_is a.plan.now c.in_default.ensures a.state
    refl a.event a.arg))
