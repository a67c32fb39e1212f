-- `store` writes the parts one after the other. Assumes nothing.
use mathlib.Core.Path.{◌∙◌}
use Rattle.numbers.proofs.Laws.{back32}
use Rattle.invariants.specs.Good.{Sized}
use Rattle.saved.proofs.Storing.{none_written, first_written, all_written}
use Rattle.saved.proofs.store.Goals.{Start}
use Rattle.saved.proofs.store.Goals as goal

-- the arrays of a state have their full size
sized_of : (c : Start) → Sized c.args.state
sized_of c =
    let g = c.well_formed.0.1.1 in
    record {
      active = g.1.0.1.0.1;
      slots = g.1.1.0.1.0.1;
      vars = g.1.1.1.0.1.0.1;
      items = g.1.1.1.1.0.1.1.1.0.1.0.1;
    }

pub returns-then-numbers-lt-STATE_NUMBERS : goal.returns-then-numbers-lt-STATE_NUMBERS
returns-then-numbers-lt-STATE_NUMBERS c = none_written _ _ c.if-numbers-lt-STATE_NUMBERS.true

pub returns : goal.returns
returns c =
    let z = sized_of (goal.at.returns c).Start in
    all_written c.args.state z c.args.numbers.now c.if-numbers-lt-STATE_NUMBERS.false _ _ _ _ _
    (first_written c.args.state z c.args.numbers.now c.if-numbers-lt-STATE_NUMBERS.false _ (back32 _ c.mark.type_inv ∙ c.mark.ensures))
    c.store_active.ensures
    c.copy.ensures
    c.copy-2.ensures
    c.store_queue.ensures
