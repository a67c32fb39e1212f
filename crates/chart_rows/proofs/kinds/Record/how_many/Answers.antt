-- `Record::how_many`: one E, of the others as many as are counted. Assumes nothing.
use Rattle.chart_rows.proofs.Named.{many_counted}
use Rattle.chart_rows.proofs.kinds.Record.how_many.Goals as goal

pub returns-in_default : goal.returns-in_default
returns-in_default c =
    many_counted c.args.chart.now _ _ c.count_at.ensures _ c.in_default.not-Events c.area-area.ensures
