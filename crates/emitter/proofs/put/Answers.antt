-- `put`: a place past the end is left alone. Assumes nothing.
use mathlib.Core.Path.{sym}
use lib.Seq.{set_out}
use native.Mathlib.Omega.{arith}
use Rattle.emitter.proofs.put.Goals as goal

pub returns-else-at-plan : goal.returns-else-at-plan
returns-else-at-plan c = sym (set_out c.args.plan.now c.args.at c.args.z (omega arith))
