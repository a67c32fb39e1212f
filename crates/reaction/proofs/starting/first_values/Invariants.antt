use Rattle.std.proofs.Common.{◌≡◌}
use Rattle.meaning.specs.Value.{chart_of}
use Rattle.queue.proofs.Copy.{copied}
use Rattle.reaction.proofs.StartLaws.{firsts, zeros}
use Rattle.reaction.proofs.starting.first_values.Given as goal

abbrev pub invariant-loop-v : goal.invariant-loop-v
invariant-loop-v l = l.vars ≡ copied zeros (firsts (chart_of l.chart).vars) l.v
