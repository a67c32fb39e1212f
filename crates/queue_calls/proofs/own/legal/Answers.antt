-- `legal` passes the root and then every state. Assumes nothing.
use mathlib.Core.Path.{refl, sym, ◌∙◌}
use native.Mathlib.Omega.{arith}
use borrow.Author.Tests.{not-true, not-false}
use Rattle.meaning.specs.Value.{chart_of}
use Prim.Native.Nat.{◌<◌}
use Rattle.meaning.specs.Foreign.{legal_at}
use Rattle.sizes.specs.Sizes.{STATES}
use Rattle.chart_rows.proofs.Rows.{states_most}
use Rattle.widget.proofs.Every.{upto_more, upto_no, upto_done}
use Rattle.queue_calls.proofs.Legal.{legal_rootless, legal_rooted}
use Rattle.queue_calls.proofs.own.legal.Goals.{In-loop-s}
use Rattle.queue_calls.proofs.own.legal.Goals as goal

pub returns-then-not-active : goal.returns-then-not-active
returns-then-not-active c u e = legal_rootless (chart_of c.args.chart.now) u e c.if-not-active.true

pub loop-s-init : goal.loop-s-init
loop-s-init c = (omega arith, λ u e. refl)

-- the state under way is one of the chart's
within : (c : In-loop-s) → c.loop-s.s < STATES
within c =
    omega (
      arith,
      c.loop-s-test.true,
      c.state_count-n.ensures,
      states_most c.args.chart.now,
    )

pub legal_at-requires : goal.legal_at-requires
legal_at-requires c =
    let l = within (goal.at.legal_at-requires c).In-loop-s in
    (l, c.count_children.ensures.told _ l)

pub returns-then-not-legal_at : goal.returns-then-not-legal_at
returns-then-not-legal_at c u e =
    let k = chart_of c.args.chart.now in
    let w = c.loop-s in
    legal_rooted k u e c.state_count-n.ensures
    c.if-not-active.false
    (upto_no (legal_at k u) c.state_count-n.result w.s (w.invariant.1 u e)
    c.loop-s-test.true
    (sym (c.legal_at.ensures u e) ∙ not-true _ c.if-not-legal_at.true-raw))

pub loop-s-preserved : goal.loop-s-preserved
loop-s-preserved c =
    let w = c.loop-s in (
      omega arith,
      λ u e. upto_more
          (legal_at (chart_of c.args.chart.now) u)
          c.state_count-n.result w.s (w.invariant.1 u e)
          c.loop-s-test.true (sym (c.legal_at.ensures u e) ∙ not-false _ c.if-not-legal_at.false-raw),
    )

pub returns : goal.returns
returns c u e =
    let k = chart_of c.args.chart.now in
    let w = c.loop-s in
    legal_rooted k u e c.state_count-n.ensures
    c.if-not-active.false
    (upto_done (legal_at k u) c.state_count-n.result w.s (w.invariant.1 u e) (omega arith))

pub count_children-requires : goal.count_children-requires
count_children-requires c = refl

pub offset_bounds-tallies-s : goal.offset_bounds-tallies-s
offset_bounds-tallies-s c = omega (arith, within c)

pub bounds-tallies-s : goal.bounds-tallies-s
bounds-tallies-s c = omega (arith, within c)
