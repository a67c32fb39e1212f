-- `qh_unstarted` stores a widget not yet started. Assumes nothing.
use Rattle.numbers.proofs.Laws.{back32}
use Rattle.boundary.proofs.Ending.{unstarted_short, unstarted_room}
use Rattle.boundary.proofs.qh_unstarted.Goals as goal

pub returns-then-widget-lt-STATE_NUMBERS : goal.returns-then-widget-lt-STATE_NUMBERS
returns-then-widget-lt-STATE_NUMBERS c =
    unstarted_short c.if-widget-lt-STATE_NUMBERS.true
    c.unstarted-state.ensures.result (back32 _ c.end.type_inv)
    c.end.ensures

pub returns : goal.returns
returns c =
    unstarted_room c.if-widget-lt-STATE_NUMBERS.false
    c.unstarted-state.ensures.result (back32 _ c.end-2.type_inv)
    c.end-2.ensures
