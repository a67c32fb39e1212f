-- `plan_session::run_plan` goes on only with a plan that was examined. Assumes nothing.
use mathlib.Core.Path.{refl}
use Rattle.plan_session.proofs.Passed.{was_passed}
use Rattle.plan_session.proofs.run_plan.Goals as goal

pub run_widget-requires : goal.run_widget-requires
run_widget-requires g c = was_passed c.args.plan.now c.in_default.ensures refl
