-- `put_stored_arm` puts every state below the owner, rising. Assumes nothing.
use Rattle.chart_rows.proofs.Rows.{states_most}
use Rattle.meaning.specs.Value.{chart_of}
use Rattle.meaning.specs.Compile.{stored_code, stored_arm}
use Rattle.tree.proofs.Passing.{sound}
use Rattle.blocks.proofs.Descent.{rising_begin, rising_room, rising_on, rising_end, end_inside}
use native.Mathlib.Omega.{arith}
use Rattle.blocks.proofs.arms.put_stored_arm.Goals as goal

pub overflow_step-d : goal.overflow_step-d
overflow_step-d c = omega (arith, c.requires.0, states_most c.args.c.now.chart.now)

pub loop-d-init : goal.loop-d-init
unfolding stored_arm
loop-d-init c =
    rising_begin (chart_of c.args.c.now.chart.now)
    (sound c.args.c.now.chart.now c.args.c.now.prepared.ruled) c.args.b
    c.requires.0 (stored_code (chart_of c.args.c.now.chart.now)) _ _ _
    c.end_below-d-end.ensures

pub put_stored-p-requires : goal.put_stored-p-requires
put_stored-p-requires c = (
  omega arith,
  omega (
    arith,
    c.loop-d-test.true,
    end_inside (chart_of c.args.c.now.chart.now)
        (sound c.args.c.now.chart.now
        c.args.c.now.prepared.ruled) c.args.b
        c.requires.0
        (stored_code (chart_of c.args.c.now.chart.now))
        c.args.plan.now c.args.at _
        c.end_below-d-end.ensures,
  ),
  rising_room c.loop-d.invariant c.loop-d-test.true
      c.requires.1,
)

pub loop-d-preserved : goal.loop-d-preserved
loop-d-preserved c = rising_on c.loop-d.invariant c.loop-d-test.true c.put_stored-p.ensures

pub returns : goal.returns
returns c = rising_end c.loop-d.invariant c.loop-d-test.false
