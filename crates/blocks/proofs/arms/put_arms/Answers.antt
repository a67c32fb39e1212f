-- `put_arms`: each arm behind its skip. Assumes nothing.
use mathlib.Core.Path.{ap}
use lib.ListN.{length}
use Rattle.meaning.specs.Value.{chart_of}
use Rattle.chart_rows.proofs.Rows.{states_most}
use Rattle.emitter.proofs.Laws.{emits_at}
use Rattle.blocks.proofs.Joining.{arm_as, arms_put, arms_long}
use native.Mathlib.Omega.{arith}
use Rattle.blocks.proofs.arms.put_arms.Goals as goal

pub default_length-k-requires : goal.default_length-k-requires
default_length-k-requires c = (c.requires.0, omega (arith, c.requires.1, arms_long (chart_of c.args.c.now.chart.now) c.args.b))

pub stored_length-m-requires : goal.stored_length-m-requires
stored_length-m-requires c = (
  c.requires.0,
  omega (
    arith,
    c.requires.1,
    arms_long (chart_of c.args.c.now.chart.now) c.args.b,
  ),
)

pub put_instr-p-requires : goal.put_instr-p-requires
put_instr-p-requires c =
    omega (
      arith,
      c.requires.0,
      c.requires.1,
      c.default_length-k.ensures,
      arms_long (chart_of c.args.c.now.chart.now)
          c.args.b,
      states_most c.args.c.now.chart.now,
    )

pub put_defaults-q-requires : goal.put_defaults-q-requires
put_defaults-q-requires c = (
  c.requires.0,
  omega (
    arith,
    c.requires.1,
    arms_long (chart_of c.args.c.now.chart.now)
        c.args.b,
    emits_at _ _ _ c.put_instr-p.ensures,
    ap length (arm_as (chart_of c.args.c.now.chart.now)
        c.args.b
        c.state_count-left.result
        c.state_count-left.ensures),
  ),
)

pub put_instr-r-requires : goal.put_instr-r-requires
put_instr-r-requires c =
    omega (
      arith,
      c.requires.0,
      c.requires.1,
      c.stored_length-m.ensures,
      arms_long (chart_of c.args.c.now.chart.now)
          c.args.b,
      emits_at _ _ _ c.put_instr-p.ensures,
      emits_at _ _ _ c.put_defaults-q.ensures,
      ap length (arm_as (chart_of c.args.c.now.chart.now)
          c.args.b c.state_count-left.result
          c.state_count-left.ensures),
      states_most c.args.c.now.chart.now,
    )

pub put_stored_arm-requires : goal.put_stored_arm-requires
put_stored_arm-requires c = (
  c.requires.0,
  omega (
    arith,
    c.requires.1,
    arms_long (chart_of c.args.c.now.chart.now)
        c.args.b,
    emits_at _ _ _
        c.put_instr-p.ensures,
    emits_at _ _ _ c.put_defaults-q.ensures,
    emits_at _ _ _ c.put_instr-r.ensures,
    ap length (arm_as (chart_of c.args.c.now.chart.now)
        c.args.b
        c.state_count-left.result
        c.state_count-left.ensures),
  ),
)

pub returns : goal.returns
returns c =
    arms_put (chart_of c.args.c.now.chart.now) c.args.b _
    c.state_count-left.ensures _ _ _
    c.default_length-k.ensures
    c.stored_length-m.ensures
    c.put_instr-p.ensures
    c.put_defaults-q.ensures
    c.put_instr-r.ensures c.put_stored_arm.ensures
