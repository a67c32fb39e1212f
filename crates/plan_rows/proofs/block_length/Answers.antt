-- `block_length` reads the number of a head that says how long its block is. Assumes nothing.
use mathlib.Core.Path.{sym, ◌∙◌}
use Rattle.plan_rows.proofs.Rows.{length_of}
use Rattle.plan_rows.proofs.block_length.Goals as goal

pub returns : goal.returns
returns c = c.named.ensures ∙ sym (length_of c.args.plan.now c.args.at)
