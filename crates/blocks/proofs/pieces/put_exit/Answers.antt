-- `put_exit`: SKIPOUT over OUT and the exit actions, OUT, the actions. Assumes nothing.
use Rattle.chart_rows.proofs.Rows.{states_most}
use Rattle.emitter.proofs.Finding.{code_few}
use Rattle.emitter.proofs.Laws.{emits_at}
use Rattle.blocks.proofs.Putting.{exit_put, parent_small}
use Rattle.meaning.specs.Compile.{exit_code}
use Rattle.meaning.specs.declared.chart.Owner.TheVariants.{ExitOf as exit_of}
use native.Mathlib.Omega.{arith}
use Rattle.blocks.proofs.pieces.put_exit.Goals as goal

pub act_count-k-requires : goal.act_count-k-requires
act_count-k-requires c = (omega (arith, c.requires.0, states_most c.args.c.now.chart.now))

pub overflow_add-k : goal.overflow_add-k
overflow_add-k c =
    omega (
      arith,
      c.act_count-k.ensures,
      code_few c.args.c.now.chart.now (exit_of c.args.s),
    )

pub put_instr-p-requires : goal.put_instr-p-requires
unfolding exit_code
put_instr-p-requires c =
    omega (
      arith,
      c.requires.0,
      c.requires.1,
      c.act_count-k.ensures,
      code_few c.args.c.now.chart.now (exit_of c.args.s),
      states_most c.args.c.now.chart.now,
    )

pub put_instr-q-requires : goal.put_instr-q-requires
unfolding exit_code
put_instr-q-requires c = (
  (
    omega (
      arith,
      c.requires.0,
      states_most c.args.c.now.chart.now,
    ),
    parent_small c.args.c.now.chart.now
        c.args.c.now.prepared.ruled c.args.s
        c.requires.0 _ c.o_parent-up.ensures,
  ),
  omega (
    arith,
    c.requires.1,
    emits_at _ _ _ c.put_instr-p.ensures,
  ),
)

pub put_acts-requires : goal.put_acts-requires
unfolding exit_code
put_acts-requires c = (
  omega (
    arith,
    c.requires.0,
    states_most c.args.c.now.chart.now,
  ),
  omega (
    arith,
    c.requires.1,
    emits_at _ _ _ c.put_instr-p.ensures,
    emits_at _ _ _ c.put_instr-q.ensures,
  ),
)

pub returns : goal.returns
returns c =
    exit_put _ _ _ _ _ c.act_count-k.ensures
    c.o_parent-up.ensures c.put_instr-p.ensures
    c.put_instr-q.ensures c.put_acts.ensures
