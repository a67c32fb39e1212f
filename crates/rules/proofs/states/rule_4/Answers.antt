-- `rule_4` tries each state. Assumes nothing.
use Rattle.std.proofs.Common.{rules, tests, arith}
use lib.ListN.{length}
use Rattle.meaning.specs.Tree.{all_states, kind_of}
use Rattle.meaning.specs.Rules.{default_fits, rule_4}
use Rattle.meaning.specs.Value.{chart_of}
use Rattle.meaning.proofs.Tried.{all_from}
use Rattle.rules.proofs.states.rule_4.Goals as goal

pub returns : goal.returns
unfolding rule_4 all_states
returns c =
    let k = chart_of c.args.chart.now in
    all_from {b = c.state_count.result} (λ s. default_fits k s (kind_of k s)) 0 (length k.states) c.all.ensures.ran (cc) (omega arith)
    (λ x t q h. search (rules, tests))
