-- `put_six` puts three numbers and three. Assumes nothing.
use Rattle.numbers.proofs.Laws.{back32}
use Rattle.meaning.specs.Value.{chart_of}
use Rattle.chart_rows.proofs.Rows.{states_most, vars_most}
use Rattle.acts.proofs.Acting.{events_most}
use Rattle.emitter.proofs.Laws.{puts_at}
use Rattle.compiler.proofs.Bounds.{order_few, code_most, start_few}
use Rattle.compiler.proofs.Whole.{six_put}
use native.Mathlib.Omega.{arith}
use Rattle.compiler.proofs.put_six.Goals as goal

pub number-requires : goal.number-requires
number-requires c =
    omega (
      arith,
      c.state_count-states.ensures,
      states_most c.args.chart.now,
    )

pub number-requires-2 : goal.number-requires-2
number-requires-2 c =
    omega (
      arith,
      c.var_count-vars.ensures,
      vars_most c.args.chart.now,
    )

pub number-requires-3 : goal.number-requires-3
number-requires-3 c =
    omega (
      arith,
      c.event_count-events.ensures,
      events_most c.args.chart.now c.requires.0,
    )

pub number-requires-4 : goal.number-requires-4
number-requires-4 c =
    omega (
      arith,
      c.requires.1,
      order_few c.args.chart.now c.requires.0,
    )

pub number-requires-5 : goal.number-requires-5
number-requires-5 c =
    omega (
      arith,
      c.requires.2,
      code_most c.args.chart.now c.requires.0,
    )

pub number-requires-6 : goal.number-requires-6
number-requires-6 c =
    omega (
      arith,
      c.requires.3,
      start_few c.args.chart.now c.requires.0,
    )

pub put_all-requires : goal.put_all-requires
put_all-requires c = omega (arith, puts_at _ _ _ c.put_all-p.ensures)

pub returns : goal.returns
returns c =
    six_put (chart_of c.args.chart.now) _ _ _ _ _ _
    c.state_count-states.ensures
    c.var_count-vars.ensures
    c.event_count-events.ensures
    c.requires.1
    c.requires.2
    c.requires.3
    _ (rw (
      back32
          c.number.result
          c.number.type_inv,
      c.number.ensures,
      back32 c.number-2.result
          c.number-2.type_inv,
      c.number-2.ensures,
      back32 c.number-3.result
          c.number-3.type_inv,
      c.number-3.ensures,
    ) at c.put_all-p.ensures)
    (rw (
      back32 c.number-4.result
          c.number-4.type_inv,
      c.number-4.ensures,
      back32 c.number-5.result c.number-5.type_inv,
      c.number-5.ensures,
      back32 c.number-6.result c.number-6.type_inv,
      c.number-6.ensures,
    ) at c.put_all.ensures)
