use mathlib.Core.Path.{◌≡◌}
use lib.ListN.{drop}
use Rattle.meaning.specs.Grammar.{ORDER}
use Rattle.meaning.specs.Lists.{every}
use Rattle.meaning.specs.Value.{PARTS, part_fits}
use Rattle.rules.specs.Clauses.{kind_fits}
use Rattle.rules.proofs.value.rule_0.Given as goal

abbrev pub invariant-loop-kind : goal.invariant-loop-kind
invariant-loop-kind l = every (kind_fits l.chart) (drop l.kind-index ORDER) ≡ every (part_fits l.chart) PARTS
