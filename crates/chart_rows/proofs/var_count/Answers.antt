-- `var_count` is the length of the list of variables. Assumes nothing.
use mathlib.Core.Path.{sym, ◌∙◌}
use Rattle.chart_rows.proofs.Rows.{vars_count}
use Rattle.chart_rows.proofs.var_count.Goals as goal

pub returns : goal.returns
returns c = c.count_at.ensures ∙ sym (vars_count c.args.chart.now)
