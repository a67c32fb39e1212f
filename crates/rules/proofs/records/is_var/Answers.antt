-- `is_var` compares with the count. Assumes nothing.
use Rattle.rules.proofs.records.is_var.Goals as goal

pub returns : goal.returns
returns c = rw c.var_count.ensures
