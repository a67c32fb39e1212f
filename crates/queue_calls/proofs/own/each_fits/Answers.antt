-- `each_fits` passes every slot below the end; those from it on are empty. Assumes nothing.
use mathlib.Core.Path.{refl, sym, ◌∙◌}
use native.Mathlib.Omega.{arith}
use borrow.Author.Rules.{rules}
use Rattle.meaning.specs.Value.{chart_of}
use mir.Facts.{to_z-of_z}
use mir.Syntax.{w32}
use mir.Val.{SFits}
use lib.IntN.{pos}
use lib.ListN.{get_or}
use Rattle.sizes.specs.Sizes.{STATES}
use Rattle.widget.proofs.Every.{upto_more, upto_no}
use Rattle.queue_calls.proofs.Slots.{slot_right, slot_tested, slots_fitted, rest_fitted}
use Rattle.queue_calls.proofs.own.each_fits.Goals as goal

pub bounds-slots-s : goal.bounds-slots-s
bounds-slots-s c = omega (arith, c.requires.1)

pub offset_bounds-slots-s : goal.offset_bounds-slots-s
offset_bounds-slots-s c = omega (arith, c.requires.1)

pub returns-then-not-slot_fits : goal.returns-then-not-slot_fits
returns-then-not-slot_fits c u e =
    let a = c.args in
    let d = chart_of a.chart.now in
    let w = a.whole in
    let s = c.loop-s.s in
    let fx : SFits w32 (get_or a.slots.now s (pos 0)) = search rules in
    slots_fitted w d u (upto_no (slot_right w d u) STATES s (c.loop-s.invariant.1 u e)
    (omega (arith, c.loop-s-test.true, c.requires.1))
    (slot_tested w d u e s (omega (arith, c.requires.0, c.loop-s-test.true, c.requires.1))
    (sym c.if-not-slot_fits.true ∙ rw (to_z-of_z fx) at (c.slot_fits.ensures u e))))

pub loop-s-preserved : goal.loop-s-preserved
loop-s-preserved c =
    let a = c.args in
    let d = chart_of a.chart.now in
    let w = a.whole in
    let s = c.loop-s.s in
    let fx : SFits w32 (get_or a.slots.now s (pos 0)) = search rules in (
      omega arith,
      λ u e. upto_more (slot_right w d u) STATES s (c.loop-s.invariant.1 u e)
          (omega (arith, c.loop-s-test.true, c.requires.1))
          (slot_tested w d u e s (omega (arith, c.requires.0, c.loop-s-test.true, c.requires.1))
          (sym c.if-not-slot_fits.false ∙ rw (to_z-of_z fx) at (c.slot_fits.ensures u e))),
    )

pub returns : goal.returns
returns c u e =
    let d = chart_of c.args.chart.now in
    let w = c.args.whole in
    slots_fitted w d u (sym (rest_fitted w d u e c.requires.0 c.requires.1
    c.requires.2 c.loop-s.s
    (omega (arith, c.loop-s.invariant.0, c.loop-s-test.false))) ∙ c.loop-s.invariant.1 u e)

pub loop-s-init : goal.loop-s-init
loop-s-init c = (search rules, λ u e. refl)
