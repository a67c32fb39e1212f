-- `qh_post` posts to the widget that the numbers state over its chart. Assumes nothing.
use mir.Facts.{to_z-of_z}
use Rattle.numbers.proofs.Laws.{back32}
use Rattle.meaning.specs.Calls.{post_of}
use Rattle.boundary.proofs.Ending.{ends_as}
use Rattle.boundary.proofs.qh_post.Goals as goal

pub returns : goal.returns
returns c =
    ends_as (λ u. post_of c.args.chart.now u c.args.event c.args.arg)
    c.load-state.ensures
    (rw (to_z-of_z c.ranges.event, to_z-of_z c.ranges.arg) at
    c.post-called.ensures.result)
    (back32 _ c.end.type_inv) c.end.ensures
