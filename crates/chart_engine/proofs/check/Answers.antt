-- `check` tries R0, then the others. Assumes nothing.
use mathlib.Core.Path.{sym, ◌∙◌}
use Rattle.chart_engine.proofs.ByRules.{check_0, check_on}
use Rattle.chart_engine.proofs.check.Goals as goal

pub returns-then-not-rule_0 : goal.returns-then-not-rule_0
returns-then-not-rule_0 c = check_0 (sym c.rule_0.ensures ∙ c.if-not-rule_0.true)

pub returns : goal.returns
returns c = check_on (sym c.rule_0.ensures ∙ c.if-not-rule_0.false) c.check_rows.ensures
