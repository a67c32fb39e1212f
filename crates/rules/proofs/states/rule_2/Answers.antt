-- `rule_2` tries each state. Assumes nothing.
use Rattle.std.proofs.Common.{rules, tests, arith}
use lib.ListN.{length}
use Rattle.meaning.specs.Tree.{all_states}
use Rattle.meaning.specs.Rules.{parent_fits, rule_2}
use Rattle.meaning.specs.Value.{chart_of}
use Rattle.meaning.proofs.Tried.{all_from}
use Rattle.rules.proofs.states.rule_2.Goals as goal

pub returns : goal.returns
unfolding rule_2 all_states
returns c =
    let k = chart_of c.args.chart.now in
    all_from {b = c.state_count.result} (parent_fits k) 0 (length k.states) c.all.ensures.ran (cc) (omega arith)
    (λ x t q h. search (rules, tests))
