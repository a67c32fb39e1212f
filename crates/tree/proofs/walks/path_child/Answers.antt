-- `path_child` goes up from the target until it meets a child of s. Assumes nothing.
use borrow.Author.Rules.{rules}
use Rattle.tree.proofs.Passing.{up_falls, path_found, path_on, path_end}
use Rattle.tree.proofs.walks.path_child.Goals as goal

pub returns-then-p-s : goal.returns-then-p-s
returns-then-p-s c = search (rules, path_found)

pub loop-x-smaller : goal.loop-x-smaller
loop-x-smaller c = search (rules, up_falls)

pub loop-x-preserved : goal.loop-x-preserved
loop-x-preserved c = search (rules, path_on)

pub returns : goal.returns
returns c = search (rules, path_end)
