-- `count_children` counts each state at its parent. Assumes nothing.
use native.Mathlib.Omega.{arith}
use Rattle.chart_rows.proofs.Rows.{states_most}
use Rattle.queue_calls.proofs.Legal.{tally_none, tally_root, tally_far, tally_more, tally_end}
use Rattle.queue_calls.proofs.own.count_children.Goals as goal

pub loop-d-init : goal.loop-d-init
loop-d-init c = rw c.requires (tally_none _ _ _)

pub loop-d-preserved-then-d-eq0 : goal.loop-d-preserved-then-d-eq0
loop-d-preserved-then-d-eq0 c = tally_root _ _ c.loop-d.invariant c.loop-d-test.true c.if-d-eq0.true

pub loop-d-preserved-then-p-ge-STATES : goal.loop-d-preserved-then-p-ge-STATES
loop-d-preserved-then-p-ge-STATES c =
    tally_far _ _ c.loop-d.invariant c.loop-d-test.true
    c.if-d-eq0.false c.parent_of-p.ensures c.if-p-ge-STATES.true

pub bounds-active-d : goal.bounds-active-d
bounds-active-d c =
    omega (
      arith,
      c.loop-d-test.true,
      c.state_count-n.ensures,
      states_most c.args.chart.now,
    )

pub loop-d-preserved : goal.loop-d-preserved
loop-d-preserved c =
    tally_more _ _ c.loop-d.invariant c.loop-d-test.true c.if-d-eq0.false
    c.parent_of-p.ensures c.if-p-ge-STATES.false c.from.ensures

pub returns : goal.returns
returns c = tally_end _ _ c.state_count-n.ensures c.loop-d.invariant c.loop-d-test.false

pub overflow_add-tallies : goal.overflow_add-tallies
overflow_add-tallies c =
    let w = c.loop-d.invariant.counted _ c.if-p-ge-STATES.false in
    omega (
      arith,
      w.most,
      c.loop-d-test.true,
      c.state_count-n.ensures,
      states_most c.args.chart.now,
    )
