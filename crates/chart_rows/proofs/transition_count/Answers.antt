-- `transition_count` is the length of the list of transitions. Assumes nothing.
use mathlib.Core.Path.{sym, ◌∙◌}
use Rattle.chart_rows.proofs.Rows.{transitions_count}
use Rattle.chart_rows.proofs.transition_count.Goals as goal

pub returns : goal.returns
returns c = c.count_at.ensures ∙ sym (transitions_count c.args.chart.now)
