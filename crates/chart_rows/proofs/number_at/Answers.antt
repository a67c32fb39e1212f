-- `number_at` is the number at its place, and 0 past the end. Assumes nothing.
use lib.IntN.{pos}
use mathlib.Core.Path.{sym}
use lib.ListN.{get_or-eq_default}
use Rattle.chart_rows.proofs.number_at.Goals as goal

pub returns-else-i-chart : goal.returns-else-i-chart
returns-else-i-chart c = sym (get_or-eq_default c.args.chart.now (pos 0) c.if-i-chart.false)
