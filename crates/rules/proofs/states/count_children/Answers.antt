-- `count_children` counts each state at its parent. Assumes nothing.
use mathlib.Core.Path.{◌≡◌}
use native.Mathlib.Omega.{arith}
use lib.ListN.{length}
use Rattle.meaning.specs.Value.{chart_of}
use Rattle.chart_rows.proofs.Rows.{states_most}
use Rattle.rules.proofs.Children.{family_none, family_root, family_far, family_more, young_length}
use Rattle.rules.proofs.states.count_children.Goals as goal

pub loop-d-init : goal.loop-d-init
loop-d-init c = family_none (chart_of c.args.chart.now)

pub loop-d-preserved-then-d-eq0 : goal.loop-d-preserved-then-d-eq0
loop-d-preserved-then-d-eq0 c =
    let w = c.loop-d in
    family_root (chart_of c.args.chart.now) w.d w.families w.invariant c.if-d-eq0.true

pub loop-d-preserved-then-p-ge-STATES : goal.loop-d-preserved-then-p-ge-STATES
loop-d-preserved-then-p-ge-STATES c =
    let w = c.loop-d in
    family_far (chart_of c.args.chart.now) w.d w.families w.invariant c.if-d-eq0.false
    (rw c.parent_of-p.ensures at c.if-p-ge-STATES.true)

pub overflow_add-families : goal.overflow_add-families
overflow_add-families c =
    let k = chart_of c.args.chart.now in
    let w = c.loop-d in
    let p = c.parent_of-p.result in
    omega (
      arith,
      w.invariant.counted p c.if-p-ge-STATES.false,
      young_length k
          w.d p,
      c.state_count-n.ensures,
      states_most
          c.args.chart.now,
    )

pub loop-d-preserved : goal.loop-d-preserved
loop-d-preserved c =
    let w = c.loop-d in
    family_more (chart_of c.args.chart.now) w.d w.families w.invariant c.parent_of-p.result
    _ c.if-d-eq0.false c.parent_of-p.ensures c.if-p-ge-STATES.false
    (rw (c.is_o.ensures, c.kind_of.ensures))

pub returns : goal.returns
returns c =
    let w = c.loop-d in
    let e : w.d ≡ length (chart_of c.args.chart.now).states = omega arith in
    rw e at w.invariant
