-- `qh_discard` discards the front event of the widget that the numbers state over its chart. Assumes nothing.
use Rattle.numbers.proofs.Laws.{back32}
use Rattle.meaning.specs.Calls.{discard_of}
use Rattle.boundary.proofs.Ending.{ends_as}
use Rattle.boundary.proofs.qh_discard.Goals as goal

pub returns : goal.returns
returns c =
    ends_as (λ u. discard_of c.args.chart.now u) c.load-state.ensures
    c.discard-called.ensures.result
    (back32 _ c.end.type_inv) c.end.ensures
