-- `components_filled` passes every state whose slot is filled or whose parent no slot holds. Assumes nothing.
use mathlib.Core.Path.{◌≡◌, sym, ap, ◌∙◌}
use Prim.Native.Nat.{◌<◌}
use native.Mathlib.Omega.{arith}
use borrow.Author.Rules.{rules}
use mir.Facts.{to_z-of_z}
use mir.Syntax.{w32}
use mir.Val.{SFits}
use lib.IntN.{pos}
use lib.ListN.{length, get_or}
use Rattle.sizes.specs.Sizes.{STATES}
use Rattle.numbers.specs.Place.{place_of}
use Rattle.meaning.specs.Value.{chart_of}
use Rattle.meaning.specs.Widget.{is_filled}
use Rattle.chart_rows.proofs.Rows.{states_most}
use Rattle.queue_calls.proofs.Slots.{slot_read}
use Rattle.queue_calls.specs.Parts.{in_slot}
use Rattle.queue_calls.proofs.Components.{leading_start, leading_filled, leading_free, leading_empty, leading_done}
use Rattle.queue_calls.proofs.own.components_filled.Goals.{After-filled, In-loop-d}
use Rattle.queue_calls.proofs.own.components_filled.Goals as goal

in-slots : (c : In-loop-d) → c.loop-d.d < STATES
in-slots c = omega (arith, states_most c.args.chart.now, c.loop-d.invariant.1, c.loop-d-test.true)

-- what `filled` told of the state's slot
read : (c : After-filled)
    → c.filled.result ≡ is_filled (place_of (get_or c.args.slots.now c.loop-d.d (pos 0)))
read c =
    let fx : SFits w32 (get_or c.args.slots.now c.loop-d.d (pos 0)) = search rules in
    rw (to_z-of_z fx) at c.filled.ensures

pub loop-d-init : goal.loop-d-init
loop-d-init c =
    (omega arith, c.state_count-n.ensures, λ u e. leading_start (chart_of c.args.chart.now) u c.state_count-n.ensures)

pub offset_bounds-slots-d : goal.offset_bounds-slots-d
offset_bounds-slots-d c = omega (arith, in-slots c)

pub bounds-slots-d : goal.bounds-slots-d
bounds-slots-d c = omega (arith, in-slots c)

pub loop-d-preserved-then-filled : goal.loop-d-preserved-then-filled
loop-d-preserved-then-filled c =
    let i = c.before.before.before in
    let l = i.before in
    let k = l.before.before in (
      omega arith,
      c.loop-d.invariant.1,
      λ u e. leading_filled (chart_of k.args.chart.now) u (c.loop-d.invariant.2 u e) c.loop-d-test.true
          (slot_read u e c.loop-d.d (omega (arith, k.requires, in-slots i)) (sym c.if-filled.true ∙ read c.before)),
    )

pub returns-then-is_held : goal.returns-then-is_held
returns-then-is_held c u e =
    let f = c.before.before.before in
    let i = f.before.before.before in
    let l = i.before in
    let d = chart_of c.args.chart.now in
    leading_empty d u (c.loop-d.invariant.2 u e) (ap length e ∙ c.requires) c.loop-d-test.true (λ z. omega (arith, z, c.loop-d.invariant.0))
    (ap (in_slot d u) (sym c.parent_of.ensures) ∙ sym (c.is_held.ensures u e) ∙ c.if-is_held.true)
    (slot_read u e c.loop-d.d (omega (arith, c.requires, in-slots i)) (sym c.if-filled.false ∙ read f.before))

pub loop-d-preserved : goal.loop-d-preserved
loop-d-preserved c =
    let i = c.before.before.before.before.before.before in
    let d = chart_of c.args.chart.now in (
      omega arith,
      c.loop-d.invariant.1,
      λ u e. leading_free d u (c.loop-d.invariant.2 u e) c.loop-d-test.true
          (ap (in_slot d u) (sym c.parent_of.ensures) ∙ sym (c.is_held.ensures u e) ∙ c.if-is_held.false),
    )

pub returns : goal.returns
returns c u e =
    leading_done (chart_of c.args.chart.now) u (c.loop-d.invariant.2 u e) c.loop-d-test.false
