use Prim.Native.Nat.{suc, ◌+◌, ◌≤◌, ◌<◌}
use lib.ListN.{length}
use Rattle.meaning.specs.Value.{chart_of}
use Rattle.meaning.specs.Tree.{descendants}
use Rattle.tree.proofs.walks.end_below.Given as goal

abbrev pub invariant-loop-d : goal.invariant-loop-d
invariant-loop-d l = (l.s < l.d) × (l.d ≤ suc l.s + length (descendants (chart_of l.chart) l.s))
