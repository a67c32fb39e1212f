-- `rule_1` tests the count and the root's kind. Assumes nothing.
use mathlib.Core.Path.{ap}
use borrow.Author.Tests.{le-leb, lt-leb}
use lib.Dec.{leb}
use Rattle.rules.proofs.Tests.{on, fails}
use Rattle.meaning.specs.Rules.{rule_1}
use Rattle.rules.proofs.states.rule_1.Goals as goal

pub returns-then-state_count-ge-LEAST_STATES : goal.returns-then-state_count-ge-LEAST_STATES
unfolding rule_1
returns-then-state_count-ge-LEAST_STATES c = on (rw c.state_count.ensures at
    (le-leb 2 c.state_count.result c.if-state_count-ge-LEAST_STATES.true))
    (rw c.kind_of.ensures at c.is_o.ensures)

pub returns-else-state_count-ge-LEAST_STATES : goal.returns-else-state_count-ge-LEAST_STATES
unfolding rule_1
returns-else-state_count-ge-LEAST_STATES c =
    fails _ (ap (leb 2) c.state_count.ensures) (lt-leb 2 c.state_count.result c.if-state_count-ge-LEAST_STATES.false)
