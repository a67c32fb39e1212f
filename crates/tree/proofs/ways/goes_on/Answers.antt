-- `goes_on` goes by the kind of the state, and for an o state by its way. Assumes nothing.
use native.Mathlib.Omega.{arith}
use Rattle.chart_rows.proofs.Rows.{states_most}
use Rattle.tree.proofs.Among.{on_inside, default_inside, among_one, among_default, among_stop, among_all, among_none}
use Rattle.tree.proofs.ways.goes_on.Goals as goal

pub overflow_add-result : goal.overflow_add-result
overflow_add-result c =
    omega (
      arith,
      states_most c.args.chart.now,
      on_inside _ c.requires.0 _ c.requires.1
          c.args.next c.requires.2 _
          c.kind_of-kind.ensures _ c.in-O.is
          c.in-OnTo.is,
    )

pub overflow_add-result-in-Defaults : goal.overflow_add-result-in-Defaults
overflow_add-result-in-Defaults c =
    omega (
      arith,
      states_most c.args.chart.now,
      default_inside _ c.requires.0 _ c.requires.1
          c.args.next c.requires.2 _
          c.kind_of-kind.ensures _
          c.in-O.is c.default_child-d.ensures,
    )

pub overflow_add-result-in-A : goal.overflow_add-result-in-A
overflow_add-result-in-A c = omega (arith, states_most c.args.chart.now)

pub returns-in-OnTo : goal.returns-in-OnTo
returns-in-OnTo c =
    among_one _ c.requires.0 _ c.requires.1
    c.args.next c.requires.2 _
    c.kind_of-kind.ensures _ c.in-O.is
    c.in-OnTo.is

pub returns-in-Defaults : goal.returns-in-Defaults
returns-in-Defaults c =
    among_default _ c.requires.0 _ c.requires.1
    c.args.next c.requires.2 _
    c.kind_of-kind.ensures _ c.in-O.is
    c.in-Defaults.is c.default_child-d.ensures

pub returns-in-Stops : goal.returns-in-Stops
returns-in-Stops c =
    among_stop _ c.requires.0 _ c.requires.1
    c.args.next c.requires.2 _
    c.kind_of-kind.ensures c.in-O.is
    c.in-Stops.is

pub returns-in-A : goal.returns-in-A
returns-in-A c =
    among_all _ c.requires.0 _ c.requires.1
    c.args.next c.requires.2 _
    c.kind_of-kind.ensures c.in-A.is _
    c.state_count.ensures

pub returns-in-B : goal.returns-in-B
returns-in-B c =
    among_none _ c.requires.0 _ c.requires.1
    c.args.next c.requires.2 _
    c.kind_of-kind.ensures c.in-B.is
