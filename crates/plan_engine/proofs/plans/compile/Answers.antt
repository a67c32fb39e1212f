-- `compile` says by name what the compiler says. Assumes nothing.
use Rattle.plan_engine.proofs.plans.compile.Goals as goal

pub returns : goal.returns
returns c = record { result = c.compile.ensures.0; lent = c.compile.ensures.1 }
