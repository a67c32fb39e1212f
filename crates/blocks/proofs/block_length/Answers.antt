-- `block_length`: four numbers to an instruction. Assumes nothing.
use Rattle.emitter.proofs.Laws.{emits_at}
use native.Mathlib.Omega.{arith}
use Rattle.blocks.proofs.block_length.Goals as goal

pub put_block-requires : goal.put_block-requires
put_block-requires c = (c.requires.0, c.requires.1)

pub returns : goal.returns
returns c = omega (arith, emits_at _ _ _ c.put_block.ensures)
