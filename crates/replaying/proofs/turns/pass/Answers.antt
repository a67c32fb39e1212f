-- `pass` takes an event for an empty queue as it is; another one goes through the queue. Assumes nothing.
use mir.Facts.{to_z-of_z}
use Rattle.replaying.proofs.Passing.{pass_empty, pass_on}
use Rattle.replaying.proofs.turns.pass.Goals as goal

pub returns-then-queue-eq0 : goal.returns-then-queue-eq0
returns-then-queue-eq0 c =
    rw (to_z-of_z c.ranges.event, to_z-of_z c.ranges.arg)
    (pass_empty c.args.queue.now c.args.event c.args.arg c.if-queue-eq0.true c.requires)

pub returns : goal.returns
returns c =
    pass_on c.args.queue.now c.args.event c.args.arg
    (rw (to_z-of_z c.ranges.event, to_z-of_z c.ranges.arg) at c.in-Ok.ensures)
    c.remove-front.result.0 c.remove-front.result.1 c.remove-front.ensures
