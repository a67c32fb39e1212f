-- `scope` goes up from the source until it meets an o state above the target. Assumes nothing.
use borrow.Author.Rules.{rules}
use Rattle.tree.proofs.Passing.{up_falls, scope_found, scope_on_kind, scope_on, scope_end}
use Rattle.tree.proofs.walks.scope.Goals.{else-is_o-via-then-is_o+else-is_ancestor, else-is_o-via-else-is_o}
use Rattle.tree.proofs.walks.scope.Goals as goal

pub returns-then-is_ancestor : goal.returns-then-is_ancestor
returns-then-is_ancestor c = scope_found _ c.requires _ _ _
    c.loop-x.invariant
    c.loop-x-test.true _
    c.parent_of-x.ensures _
    c.kind_of.ensures _ _ c.is_o.ensures
    c.if-is_o.true c.is_ancestor.ensures c.if-is_ancestor.true

pub loop-x-smaller : goal.loop-x-smaller
loop-x-smaller c = search (rules, up_falls)

pub loop-x-preserved : goal.loop-x-preserved
loop-x-preserved c = elim c.else-is_o.branch [
  | else-is_o-via-then-is_o+else-is_ancestor w ↦ scope_on _ c.requires _ _ _
      c.loop-x.invariant
      c.loop-x-test.true _
      c.parent_of-x.ensures _
      c.kind_of.ensures _ _ c.is_o.ensures
      w.if-is_o.true w.is_ancestor.ensures w.if-is_ancestor.false
  | else-is_o-via-else-is_o w ↦ scope_on_kind _ c.requires _ _ _
      c.loop-x.invariant
      c.loop-x-test.true _
      c.parent_of-x.ensures _
      c.kind_of.ensures _ c.is_o.ensures w.if-is_o.false
]

pub returns : goal.returns
returns c = search (rules, scope_end)
