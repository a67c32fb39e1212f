-- `action_count` is the length of the list of actions. Assumes nothing.
use mathlib.Core.Path.{sym, ◌∙◌}
use Rattle.chart_rows.proofs.Rows.{actions_count}
use Rattle.chart_rows.proofs.action_count.Goals as goal

pub returns : goal.returns
returns c = c.count_at.ensures ∙ sym (actions_count c.args.chart.now)
