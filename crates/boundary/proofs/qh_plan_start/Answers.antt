-- `qh_plan_start` starts the widget over its plan, where there is room to store it. Assumes nothing.
use mathlib.Core.Path.{◌∙◌}
use Rattle.numbers.proofs.Laws.{back32}
use lib.ListN.{length}
use Rattle.meaning.specs.WellFormed.{well_formed}
use Rattle.promises.specs.Promises.{plan_verdict}
use Rattle.meaning.specs.Machine.{machine_start}
use Rattle.boundary.proofs.Ending.{start_room, start_short}
use Rattle.boundary.proofs.qh_plan_start.Goals as goal

pub returns-then-widget-lt-STATE_NUMBERS : goal.returns-then-widget-lt-STATE_NUMBERS
returns-then-widget-lt-STATE_NUMBERS c =
    start_short (λ u. machine_start c.args.plan.now u (length c.args.trace.now))
    c.if-widget-lt-STATE_NUMBERS.true
    (c.from-verdict.ensures ∙ c.examine.ensures.result) c.too_few-answer.ensures
    c.clear.ensures (back32 _ c.tell.type_inv) c.tell.ensures

pub returns : goal.returns
returns c =
    start_room (plan_verdict (well_formed c.args.plan.now))
    (λ u. machine_start c.args.plan.now u (length c.args.trace.now)) c.if-widget-lt-STATE_NUMBERS.false
    c.load-state.ensures c.start-called.ensures.result
    c.start-called.ensures.lent
    (back32 _ c.end.type_inv) c.end.ensures
