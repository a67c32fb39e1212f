-- `slot_fits` makes the tests of one slot in turn. Assumes nothing.
use mathlib.Core.Path.{◌≡◌, sym, ap, ◌∙◌}
use native.Mathlib.Omega.{arith}
use borrow.Author.Tests.{le-ltb}
use lib.IntN.{pos, negsuc}
use mir.Facts.{to_z-of_z}
use Rattle.meaning.specs.Value.{chart_of}
use Rattle.meaning.specs.Tree.{is_o}
use Rattle.numbers.proofs.Laws.{test_bits}
use Rattle.chart_rows.proofs.Rows.{states_most}
use Rattle.queue_calls.proofs.Slots.{place_at, slot_empty, slot_nowhere, slot_not_o, slot_no_child, slot_child}
use Rattle.queue_calls.proofs.own.slot_fits.Goals.{In-Some}
use Rattle.queue_calls.proofs.own.slot_fits.Goals as goal

-- the state that stands in the slot
stands : (c : In-Some) → c.args.x ≡ pos c.in-Some.d
stands c = place_at c.args.x c.in-Some.d (rw (to_z-of_z c.ranges.x) at c.place_of.ensures) c.in-Some.is

pub returns-in_default : goal.returns-in_default
returns-in_default c u e =
    test_bits c.args.x (negsuc 0) c.ranges.x.sfits (omega arith)
    ∙ slot_empty c.args.whole (chart_of c.args.chart.now) u c.args.s c.args.x
    (rw (to_z-of_z c.ranges.x) at c.place_of.ensures) c.in_default.is

pub returns-else-d-state_count : goal.returns-else-d-state_count
returns-else-d-state_count c u e =
    let k = c.args in
    le-ltb _ _ c.if-d-state_count.false ∙ slot_nowhere k.whole (chart_of k.chart.now) u k.s k.x
    (stands (goal.at.returns-else-d-state_count c).In-Some) c.state_count.ensures c.if-d-state_count.false

pub returns-else-is_o : goal.returns-else-is_o
returns-else-is_o c u e =
    let k = c.args in
    c.if-is_o.false ∙ slot_not_o k.whole (chart_of k.chart.now) u k.s k.x (stands (goal.at.returns-else-is_o c).In-Some)
    c.state_count.ensures c.if-d-state_count.true
    (sym (c.is_o.ensures ∙ ap is_o c.kind_of.ensures) ∙ c.if-is_o.false)

pub returns-else-is_child : goal.returns-else-is_child
returns-else-is_child c u e =
    let k = c.args in
    c.if-is_child.false ∙ slot_no_child k.whole (chart_of k.chart.now) u k.s k.x (stands (goal.at.returns-else-is_child c).In-Some)
    c.state_count.ensures c.if-d-state_count.true
    (sym (c.is_o.ensures ∙ ap is_o c.kind_of.ensures) ∙ c.if-is_o.true)
    (sym c.is_child.ensures ∙ c.if-is_child.false)

pub leads_on-requires : goal.leads_on-requires
leads_on-requires c = (
  c.requires,
  omega (
    arith,
    states_most c.args.chart.now,
    c.if-d-state_count.true,
    c.state_count.ensures,
  ),
)

pub returns-then-is_child : goal.returns-then-is_child
returns-then-is_child c u e =
    let k = c.args in
    slot_child k.whole (chart_of k.chart.now) u k.s k.x (stands (goal.at.returns-then-is_child c).In-Some)
    c.state_count.ensures c.if-d-state_count.true
    (sym (c.is_o.ensures ∙ ap is_o c.kind_of.ensures) ∙ c.if-is_o.true)
    (sym c.is_child.ensures ∙ c.if-is_child.true) (c.leads_on.ensures u e)
