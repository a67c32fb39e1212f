-- `children_fit` goes by cases. Assumes nothing.
use mathlib.Core.Path.{refl}
use borrow.Author.Tests.{le-leb, lt-leb}
use Rattle.rules.specs.Family.{count_fits_kind}
use Rattle.rules.proofs.Tests.{fails}
use Rattle.rules.proofs.states.children_fit.Goals as goal

pub returns-in-O : goal.returns-in-O
unfolding count_fits_kind
returns-in-O c = rw c.in-O.is

pub returns-then-children-ge2 : goal.returns-then-children-ge2
unfolding count_fits_kind
returns-then-children-ge2 c = rw (c.in-A.is, le-leb 2 c.args.children.count c.if-children-ge2.true)

pub returns-else-children-ge2 : goal.returns-else-children-ge2
unfolding count_fits_kind
returns-else-children-ge2 c = rw c.in-A.is (fails _ refl (lt-leb 2 c.args.children.count c.if-children-ge2.false))

pub returns-in-B : goal.returns-in-B
unfolding count_fits_kind
returns-in-B c = rw c.in-B.is
