-- `rule_5` tries each variable. Assumes nothing.
use Rattle.std.proofs.Common.{rules, tests}
use Rattle.meaning.specs.Chart.{no_var}
use Rattle.meaning.specs.Tree.{var_row}
use Rattle.meaning.specs.Rules.{row_fits, rule_5}
use Rattle.meaning.specs.Value.{chart_of}
use Rattle.meaning.proofs.Tried.{all_places}
use Rattle.rules.proofs.records.rule_5.Goals as goal

pub returns : goal.returns
unfolding rule_5 var_row
returns c =
    let k = chart_of c.args.chart.now in
    all_places {b = c.var_count.result} row_fits k.vars no_var c.all.ensures.ran (cc) c.var_count.ensures (λ x t q h. search (rules, tests))
