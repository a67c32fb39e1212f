-- `start_length`: four numbers to an instruction. Assumes nothing.
use Rattle.emitter.proofs.Laws.{emits_at}
use Rattle.compiler.proofs.Bounds.{start_few}
use native.Mathlib.Omega.{arith}
use Rattle.compiler.proofs.start_length.Goals as goal

pub put_start-requires : goal.put_start-requires
put_start-requires c = (omega (arith, start_few c.args.c.now.chart.now c.args.c.now.prepared.ruled))

pub returns : goal.returns
returns c = omega (arith, emits_at _ _ _ c.put_start.ensures)
