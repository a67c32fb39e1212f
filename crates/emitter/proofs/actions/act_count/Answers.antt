-- `act_count`: four numbers to an action. Assumes nothing.
use Rattle.meaning.specs.Compile.{code_acts}
use Rattle.meaning.specs.Value.{chart_of}
use Rattle.emitter.proofs.Laws.{emits_at}
use Rattle.emitter.proofs.Finding.{code_few}
use native.Mathlib.Omega.{arith}
use Rattle.emitter.proofs.actions.act_count.Goals as goal

pub put_acts-requires : goal.put_acts-requires
put_acts-requires c = (
  c.requires,
  omega (arith, code_few c.args.c.now.chart.now c.args.owner),
)

pub returns : goal.returns
returns c =
    omega (
      arith,
      emits_at (code_acts (chart_of c.args.c.now.chart.now) c.args.owner)
          _ 0 c.put_acts.ensures,
    )
