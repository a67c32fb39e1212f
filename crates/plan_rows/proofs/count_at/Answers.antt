-- `count_at` is the number at its place where that keeps the size. Assumes nothing.
use mathlib.Core.Path.{◌≡◌}
use borrow.Author.Tests.{le-leb, lt-leb}
use lib.IntN.{pos}
use lib.ListN.{get_or}
use Rattle.numbers.specs.Reference.{ref}
use Rattle.meaning.specs.Value.{size_by}
use Rattle.chart_rows.proofs.Said.{said_of}
use Rattle.plan_rows.proofs.count_at.Goals.{After-reference-n}
use Rattle.plan_rows.proofs.count_at.Goals as goal

counted : (c : After-reference-n) → c.reference-n.result
    ≡ ref (get_or c.args.plan.now c.args.i (pos 0))
counted c = said_of ref c.number_at.type_inv c.number_at.ensures c.reference-n.ensures

pub returns-then-n-most : goal.returns-then-n-most
unfolding size_by
returns-then-n-most c = rw (← counted c.before, le-leb _ _ c.if-n-most.true)

pub returns-else-n-most : goal.returns-else-n-most
unfolding size_by
returns-else-n-most c = rw (← counted c.before, lt-leb _ _ c.if-n-most.false)
