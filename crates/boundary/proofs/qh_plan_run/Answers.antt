-- `qh_plan_run` runs the widget that the numbers state over its plan. Assumes nothing.
use Rattle.numbers.proofs.Laws.{back32}
use lib.ListN.{length}
use Rattle.meaning.specs.Machine.{machine_run}
use Rattle.boundary.proofs.Ending.{traces_as}
use Rattle.boundary.proofs.qh_plan_run.Goals as goal

pub returns : goal.returns
returns c =
    traces_as (λ u. machine_run c.args.plan.now u (length c.args.trace.now))
    c.load-state.ensures
    c.run-called.ensures.result c.run-called.ensures.lent
    (back32 _ c.end.type_inv) c.end.ensures
