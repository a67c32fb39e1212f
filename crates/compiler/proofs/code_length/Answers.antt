-- `code_length`: four numbers to an instruction. Assumes nothing.
use Rattle.emitter.proofs.Laws.{emits_at}
use Rattle.compiler.proofs.Bounds.{code_most}
use native.Mathlib.Omega.{arith}
use Rattle.compiler.proofs.code_length.Goals as goal

pub put_code-requires : goal.put_code-requires
put_code-requires c = (
  c.requires,
  omega (arith, code_most c.args.c.now.chart.now c.args.c.now.prepared.ruled),
)

pub returns : goal.returns
returns c = omega (arith, emits_at _ _ _ c.put_code.ensures)
