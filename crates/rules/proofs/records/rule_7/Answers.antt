-- `rule_7` tries each action. Assumes nothing.
use Rattle.std.proofs.Common.{rules, tests}
use Rattle.meaning.specs.Chart.{no_action}
use Rattle.meaning.specs.Rules.{action_fits, rule_7}
use Rattle.meaning.specs.Value.{chart_of}
use Rattle.meaning.proofs.Tried.{all_places}
use Rattle.rules.proofs.records.rule_7.Goals as goal

pub returns : goal.returns
unfolding rule_7
returns c =
    let k = chart_of c.args.chart.now in
    all_places {b = c.action_count.result} (action_fits k) k.actions no_action c.all.ensures.ran (cc)
    c.action_count.ensures (λ x t q h. search (rules, tests))
