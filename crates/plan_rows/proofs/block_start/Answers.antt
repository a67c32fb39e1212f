-- `block_start` reads the number of a head that says where its block begins. Assumes nothing.
use mathlib.Core.Path.{sym, ◌∙◌}
use Rattle.plan_rows.proofs.Rows.{start_of}
use Rattle.plan_rows.proofs.block_start.Goals as goal

pub returns : goal.returns
returns c = c.named.ensures ∙ sym (start_of c.args.plan.now c.args.at)
