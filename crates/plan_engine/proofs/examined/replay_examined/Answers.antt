-- `replay_examined` says by name what the replay says. Assumes nothing.
use Rattle.plan_engine.proofs.examined.replay_examined.Goals as goal

pub returns : goal.returns
returns c = record { result = c.replay_planned.ensures.result; lent = c.replay_planned.ensures.lent }
