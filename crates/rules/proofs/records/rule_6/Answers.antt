-- `rule_6` tries each transition. Assumes nothing.
use Rattle.std.proofs.Common.{rules, tests}
use Rattle.meaning.specs.Chart.{no_trans}
use Rattle.meaning.specs.Tree.{trans_row}
use Rattle.meaning.specs.Rules.{transition_fits, rule_6}
use Rattle.meaning.specs.Value.{chart_of}
use Rattle.meaning.proofs.Tried.{all_places}
use Rattle.rules.proofs.records.rule_6.Goals as goal

pub returns : goal.returns
unfolding rule_6 trans_row
returns c =
    let k = chart_of c.args.chart.now in
    all_places {b = c.transition_count.result} (transition_fits k) k.transitions no_trans
    c.all.ensures.ran (cc) c.transition_count.ensures (λ x t q h. search (rules, tests))
