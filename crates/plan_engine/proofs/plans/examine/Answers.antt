-- `examine` says by name what the examiner says. Assumes nothing.
use Rattle.plan_engine.proofs.Examining.{by_verdict}
use Rattle.plan_engine.proofs.plans.examine.Goals as goal

pub returns : goal.returns
returns c = by_verdict c.args.plan.now c.examine.ensures
