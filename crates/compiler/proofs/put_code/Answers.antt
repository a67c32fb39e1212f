-- `put_code`: the start block, then the blocks. Assumes nothing.
use Rattle.meaning.specs.Compile.{code_of}
use Rattle.emitter.proofs.Laws.{put_both, emits_at}
use Rattle.compiler.proofs.Bounds.{code_long}
use native.Mathlib.Omega.{arith}
use Rattle.compiler.proofs.put_code.Goals as goal

pub put_start-p-requires : goal.put_start-p-requires
put_start-p-requires c = omega (arith, c.requires.1, code_long c.args.c.now.chart.now c.args.c.now.prepared.ruled)

pub put_blocks-requires : goal.put_blocks-requires
put_blocks-requires c = (
  c.requires.0,
  omega (
    arith,
    c.requires.1,
    emits_at _ _ _ c.put_start-p.ensures,
    code_long c.args.c.now.chart.now
        c.args.c.now.prepared.ruled,
  ),
)

pub returns : goal.returns
unfolding code_of
returns c = put_both _ _ _ c.put_start-p.ensures c.put_blocks.ensures
