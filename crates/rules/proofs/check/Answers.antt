-- `check` tries R0, then the others. Assumes nothing.
use mathlib.Core.Path.{◌∙◌}
use Rattle.rules.proofs.Tests.{refuted, held}
use Rattle.meaning.specs.Rules.{failing_rule_of, verdict}
use Rattle.rules.proofs.check.Goals as goal

pub returns-then-not-rule_0 : goal.returns-then-not-rule_0
unfolding verdict failing_rule_of
returns-then-not-rule_0 c = rw (refuted c.rule_0.ensures c.if-not-rule_0.true-raw)

pub returns : goal.returns
unfolding failing_rule_of
returns c = c.check_rows.ensures ∙ rw (held c.rule_0.ensures c.if-not-rule_0.false-raw)
