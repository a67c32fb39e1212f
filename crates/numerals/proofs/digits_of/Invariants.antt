use Rattle.std.proofs.Common.{◌≡◌, drop}
use Rattle.meaning.specs.Number.{value}
use Rattle.numerals.proofs.digits_of.Given as goal

abbrev pub invariant-loop-b : goal.invariant-loop-b
invariant-loop-b l = value l.so_far (drop l.b-index l.s) ≡ value 0 l.s
