use mathlib.Core.Path.{◌≡◌}
use Prim.Native.Nat.{◌+◌, ◌*◌}
use Rattle.queue.specs.Numbers.{numbers_of}
use Rattle.queue.proofs.Copy.{copied}
use Rattle.queue.proofs.Numbers.{zeros}
use Rattle.queue.proofs.lent.lend.Given as goal

abbrev pub invariant-loop-i : goal.invariant-loop-i
invariant-loop-i l = l.numbers ≡ copied zeros (numbers_of l.queue) (2 * l.i + 1)
