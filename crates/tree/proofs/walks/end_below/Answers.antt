-- `end_below` goes on until a parent comes before s. Assumes nothing.
use borrow.Author.Rules.{rules}
use native.Mathlib.Omega.{arith}
use Rattle.tree.proofs.Passing.{end_found, end_on, end_all}
use Rattle.tree.proofs.walks.end_below.Goals as goal

pub returns-then-parent_of-s : goal.returns-then-parent_of-s
returns-then-parent_of-s c = search (rules, end_found)

pub loop-d-preserved : goal.loop-d-preserved
loop-d-preserved c = end_on _ c.requires.0 _ c.requires.1
    _ c.loop-d.invariant _ c.state_count-count.ensures
    c.loop-d-test.true _ c.parent_of.ensures c.if-parent_of-s.false

pub returns : goal.returns
returns c = end_all _ c.requires.0 _ c.requires.1
    _ c.loop-d.invariant _ c.state_count-count.ensures (omega arith) (omega arith)
