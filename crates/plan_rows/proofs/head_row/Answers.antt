-- `head_row` reads the ten numbers of its row. Assumes nothing.
use Prim.Native.Nat.{◌+◌, ◌*◌}
use Rattle.meaning.specs.WellFormed.{HEAD_ROW}
use Rattle.plan_rows.proofs.Rows.{head_said}
use Rattle.plan_rows.proofs.head_row.Goals as goal

pub returns : goal.returns
returns c =
    let a = c.args in
    head_said a.plan.now (a.base + a.h * HEAD_ROW) c.named.ensures c.named-2.ensures
    c.named-3.ensures c.guard_at.ensures c.named-4.ensures c.named-5.ensures
    c.block_start.ensures c.block_length.ensures
