-- `qh_plan_discard` discards the front event of the widget that the numbers state over its plan. Assumes nothing.
use Rattle.numbers.proofs.Laws.{back32}
use Rattle.meaning.specs.Machine.{machine_discard}
use Rattle.boundary.proofs.Ending.{ends_as}
use Rattle.boundary.proofs.qh_plan_discard.Goals as goal

pub returns : goal.returns
returns c =
    ends_as (λ u. machine_discard c.args.plan.now u) c.load-state.ensures
    c.discard-called.ensures.result
    (back32 _ c.end.type_inv) c.end.ensures
