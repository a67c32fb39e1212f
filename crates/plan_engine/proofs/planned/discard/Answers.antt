-- `discard` says by name what the machine says. Assumes nothing.
use Rattle.plan_engine.proofs.planned.discard.Goals as goal

pub returns : goal.returns
returns c = record { result = c.discard.ensures }
