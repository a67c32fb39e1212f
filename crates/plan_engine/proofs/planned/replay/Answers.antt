-- `replay` says by name what the replay says. Assumes nothing.
use Rattle.plan_engine.proofs.planned.replay.Goals as goal

pub returns : goal.returns
returns c = record { result = c.replay.ensures.result; lent = c.replay.ensures.lent }
