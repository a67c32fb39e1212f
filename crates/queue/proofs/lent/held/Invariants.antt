use mathlib.Core.Path.{◌≡◌}
use lib.ListN.{drop}
use Rattle.queue.specs.Numbers.{places as says}
use Rattle.queue.proofs.Copy.{copied}
use Rattle.queue.proofs.Numbers.{free}
use Rattle.queue.proofs.lent.held.Given as goal

abbrev pub invariant-loop-i : goal.invariant-loop-i
invariant-loop-i l = l.items ≡ copied free (says (drop 1 l.numbers)) l.i
