-- `is_child` tests the parent; the root is nobody's child. Assumes nothing.
use mathlib.Core.Path.{sym}
use Rattle.meaning.specs.Tree.{is_child}
use Rattle.meaning.specs.Value.{chart_of}
use Rattle.tree.proofs.Climb.{child_below}
use Rattle.tree.proofs.kin.is_child.Goals as goal

pub returns-then-d-ne0 : goal.returns-then-d-ne0
returns-then-d-ne0 c =
    let a = c.args in
    rw c.parent_of.ensures (sym (child_below (chart_of a.chart.now) a.s a.d c.if-d-ne0.true))

pub returns-else-d-ne0 : goal.returns-else-d-ne0
unfolding is_child
returns-else-d-ne0 c = rw c.if-d-ne0.false
