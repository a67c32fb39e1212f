-- `row_statable` by the kind. Assumes nothing.
use Rattle.rules.proofs.KindTests.{event_said}
use Rattle.rules.proofs.value.row_statable.Goals as goal

pub returns-in-Events : goal.returns-in-Events
returns-in-Events c = rw c.in-Events.is (event_said c.args.chart.now _ c.count_fits.ensures)
