-- `how_many` by a letter: of no kind there are no rows. Assumes nothing.
use Rattle.chart_rows.proofs.Named.{many_none}
use Rattle.chart_rows.proofs.kinds.how_many.Goals as goal

pub returns-in-None : goal.returns-in-None
returns-in-None c = many_none c.args.chart.now _ c.in-None.ensures
