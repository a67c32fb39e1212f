-- `unstarted` is a widget not yet started. Assumes nothing.
use mathlib.Core.Path.{ap}
use Rattle.meaning.specs.Calls.{unstarted}
use Rattle.meaning.specs.Widget.{set_queue}
use Rattle.chart_engine.proofs.unstarted.Goals as goal

pub returns : goal.returns
unfolding unstarted set_queue
returns c = record { result = ap (λ q. set_queue q unstarted) c.empty.ensures }
