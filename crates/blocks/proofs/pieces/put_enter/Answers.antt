-- `put_enter`: IN, then the entry actions. Assumes nothing.
use Rattle.chart_rows.proofs.Rows.{states_most}
use Rattle.emitter.proofs.Laws.{put_first, emits_at}
use Rattle.meaning.specs.Compile.{enter_code}
use native.Mathlib.Omega.{arith}
use Rattle.blocks.proofs.pieces.put_enter.Goals as goal

pub put_instr-p-requires : goal.put_instr-p-requires
unfolding enter_code
put_instr-p-requires c = omega (arith, c.requires.0, c.requires.1, states_most c.args.c.now.chart.now)

pub put_acts-requires : goal.put_acts-requires
unfolding enter_code
put_acts-requires c = (
  omega (
    arith,
    c.requires.0,
    states_most c.args.c.now.chart.now,
  ),
  omega (
    arith,
    c.requires.1,
    emits_at _ _ _ c.put_instr-p.ensures,
  ),
)

pub returns : goal.returns
unfolding enter_code
returns c = put_first _ _ _ c.put_instr-p.ensures c.put_acts.ensures
