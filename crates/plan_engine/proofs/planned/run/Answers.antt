-- `run` says by name what the machine says. Assumes nothing.
use Rattle.plan_engine.proofs.planned.run.Goals as goal

pub returns : goal.returns
returns c = record { result = c.run.ensures.0; lent = c.run.ensures.1 }
