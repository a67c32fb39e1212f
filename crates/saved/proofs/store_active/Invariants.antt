use Rattle.std.proofs.Common.{◌≡◌, map}
use Rattle.std.proofs.Math.Seq.{paste}
use Rattle.promises.specs.Saved.{mark}
use Rattle.saved.proofs.store_active.Given as goal

-- the marks written so far
abbrev pub invariant-loop-i : goal.invariant-loop-i
invariant-loop-i l = l.numbers ≡ paste l.initial.numbers 1 (map mark l.on-items) l.i
