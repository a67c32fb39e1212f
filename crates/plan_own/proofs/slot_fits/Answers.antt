-- `slot_fits` tells -1 from other numbers below 0. Assumes nothing.
use mathlib.Core.Path.{ap, ◌∙◌}
use native.Mathlib.Omega.{arith}
use borrow.Author.Tests.{eq-eqb}
use lib.Dec.{ltb}
use lib.IntN.{negsuc}
use Rattle.numbers.specs.Reference.{ref}
use Rattle.numbers.proofs.Laws.{test_eq, test_ne}
use Rattle.chart_rows.proofs.Said.{said_own}
use Rattle.plan_own.proofs.Clauses.{slot_empty, slot_state}
use Rattle.plan_own.proofs.slot_fits.Goals as goal

pub returns-then-x-eqminus1 : goal.returns-then-x-eqminus1
returns-then-x-eqminus1 c =
    let a = c.args in
    eq-eqb _ _ c.if-x-eqminus1.true
    ∙ slot_empty a.states a.x (test_eq a.x (negsuc 0) c.ranges.x.sfits (omega arith) c.if-x-eqminus1.true)

pub returns-else-x-eqminus1 : goal.returns-else-x-eqminus1
returns-else-x-eqminus1 c =
    let a = c.args in
    ap (λ n. ltb n a.states) (said_own ref c.ranges.x c.reference.ensures)
    ∙ slot_state a.states a.x c.requires (test_ne a.x (negsuc 0) c.if-x-eqminus1.false)
