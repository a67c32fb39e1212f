-- `state_count` is the length of the list of states. Assumes nothing.
use mathlib.Core.Path.{sym, ◌∙◌}
use Rattle.chart_rows.proofs.Rows.{states_count}
use Rattle.chart_rows.proofs.state_count.Goals as goal

pub returns : goal.returns
returns c = c.count_at.ensures ∙ sym (states_count c.args.chart.now)
