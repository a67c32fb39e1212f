-- `start` says by name what the machine says. Assumes nothing.
use Rattle.plan_engine.proofs.planned.start.Goals as goal

pub returns : goal.returns
returns c = record { result = c.start.ensures.0; lent = c.start.ensures.1 }
