-- `start_examined` begins with a fresh widget. Assumes nothing.
use Rattle.meaning.specs.WellFormed.{plan_by}
use Rattle.machine.proofs.Starts.{start_ends}
use Rattle.machine.proofs.starting.start_examined.Goals as goal

pub finish-requires : goal.finish-requires
finish-requires c = c.begin-went.ensures.fits

pub returns : goal.returns
returns c =
    let a = c.args in
    start_ends (plan_by a.plan.now) _ _ a.trace.now _ _ c.fresh-widget.ensures
    (rw c.of-planned.ensures.numbers at c.begin-went.ensures) c.finish.ensures
