-- `qh_plan_post` posts to the widget that the numbers state over its plan. Assumes nothing.
use mir.Facts.{to_z-of_z}
use Rattle.numbers.proofs.Laws.{back32}
use Rattle.meaning.specs.Machine.{machine_post}
use Rattle.boundary.proofs.Ending.{ends_as}
use Rattle.boundary.proofs.qh_plan_post.Goals as goal

pub returns : goal.returns
returns c =
    ends_as (λ u. machine_post c.args.plan.now u c.args.event c.args.arg)
    c.load-state.ensures
    (rw (to_z-of_z c.ranges.event, to_z-of_z c.ranges.arg) at
    c.post-called.ensures.result)
    (back32 _ c.end.type_inv) c.end.ensures
