-- `default_length`: four numbers to an instruction. Assumes nothing.
use mathlib.Core.Path.{ap}
use lib.ListN.{length}
use Rattle.meaning.specs.Value.{chart_of}
use Rattle.emitter.proofs.Laws.{emits_at}
use Rattle.blocks.proofs.Joining.{arm_as}
use native.Mathlib.Omega.{arith}
use Rattle.blocks.proofs.arms.default_length.Goals as goal

pub put_defaults-requires : goal.put_defaults-requires
put_defaults-requires c = (
  c.requires.0,
  omega (
    arith,
    c.requires.1,
    ap length (arm_as (chart_of c.args.c.now.chart.now) c.args.b
        c.state_count.result c.state_count.ensures),
  ),
)

pub returns : goal.returns
returns c =
    omega (
      arith,
      emits_at _ _ _ c.put_defaults.ensures,
      ap length (arm_as (chart_of c.args.c.now.chart.now) c.args.b
          c.state_count.result c.state_count.ensures),
    )
