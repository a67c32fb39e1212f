use mathlib.Core.Path.{◌≡◌}
use mathlib.Core.Bool.{◌&&◌}
use lib.IntN.{negsuc}
use lib.ListN.{drop}
use Rattle.numbers.specs.Equal.{eq_z}
use Rattle.meaning.specs.Lists.{every}
use Rattle.queue_calls.proofs.own.rest_empty.Given as goal

abbrev pub invariant-loop-s : goal.invariant-loop-s
invariant-loop-s l =
    l.fit && every (eq_z (negsuc 0)) (drop l.s l.slots) ≡ every (eq_z (negsuc 0)) (drop l.end l.slots)
