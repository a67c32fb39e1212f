-- `stored_length`: four numbers to an instruction. Assumes nothing.
use Rattle.emitter.proofs.Laws.{emits_at}
use native.Mathlib.Omega.{arith}
use Rattle.blocks.proofs.arms.stored_length.Goals as goal

pub put_stored_arm-requires : goal.put_stored_arm-requires
put_stored_arm-requires c = (c.requires.0, c.requires.1)

pub returns : goal.returns
returns c = omega (arith, emits_at _ _ _ c.put_stored_arm.ensures)
