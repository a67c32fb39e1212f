-- `fresh` is a widget before the start block. Assumes nothing.
use Rattle.meaning.specs.WellFormed.{plan_by}
use Rattle.machine.proofs.Starts.{fresh_is}
use Rattle.machine.proofs.starting.fresh.Goals as goal

pub returns : goal.returns
returns c = fresh_is (plan_by c.args.plan.now).vars c.first_values.ensures c.empty.ensures
