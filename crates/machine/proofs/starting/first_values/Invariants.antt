use mathlib.Core.Path.{◌≡◌}
use Rattle.meaning.specs.WellFormed.{plan_by}
use Rattle.queue.proofs.Copy.{copied}
use Rattle.machine.proofs.Starts.{firsts, zeros}
use Rattle.machine.proofs.starting.first_values.Given as goal

abbrev pub invariant-loop-v : goal.invariant-loop-v
invariant-loop-v l = l.vars ≡ copied zeros (firsts (plan_by l.plan).vars) l.v
