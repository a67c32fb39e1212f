use mathlib.Core.Path.{◌≡◌}
use lib.ListN.{drop}
use lib.Seq.{paste}
use Rattle.saved.proofs.copy.Given as goal

-- the numbers copied so far
abbrev pub invariant-loop-i : goal.invariant-loop-i
invariant-loop-i l = l.to ≡ paste l.initial.to l.place (drop l.at l.from) l.i
