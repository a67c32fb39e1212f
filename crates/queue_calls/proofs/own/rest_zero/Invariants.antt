use mathlib.Core.Path.{◌≡◌}
use mathlib.Core.Bool.{◌&&◌}
use lib.IntN.{pos}
use lib.ListN.{drop}
use Rattle.numbers.specs.Equal.{eq_z}
use Rattle.meaning.specs.Lists.{every}
use Rattle.queue_calls.proofs.own.rest_zero.Given as goal

abbrev pub invariant-loop-v : goal.invariant-loop-v
invariant-loop-v l =
    l.fit && every (eq_z (pos 0)) (drop l.v l.vars) ≡ every (eq_z (pos 0)) (drop l.end l.vars)
