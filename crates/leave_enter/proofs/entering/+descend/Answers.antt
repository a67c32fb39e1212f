-- `descend` enters each child that is due on its course, with what is below it. The measure is how many states are left. Assumes nothing.
use Rattle.std.proofs.Common.{◌≡◌, ◌<◌, ◌∙◌, ap, sym, subst, Err, List, ℤ, length, rules, arith}
use borrow.Author.Tests.{not-true, not-false}
use mir.Facts.{to_z-of_z}
use Rattle.chart_rows.proofs.Rows.{states_most}
use Rattle.meaning.specs.Chart.{Chart}
use Rattle.meaning.specs.Value.{chart_of}
use Rattle.tree.proofs.Passing.{sound}
use Rattle.tree.specs.Courses.{Bound, Led}
use Rattle.tree.proofs.Aiming.{onward_bound}
use Rattle.tree.proofs.Among.{course_child, course_sound}
use Rattle.tree.proofs.Levels.{child_fewer}
use Rattle.leave_enter.proofs.Keeping.{arrival_same}
use Rattle.leave_enter.proofs.Descending.{going_begin, going_skip, going_stop, going_stop_below, going_on, going_end}
use Rattle.leave_enter.proofs.entering.+descend.Goals as goal

still_led : (c : Chart) {a b : List ℤ} → b ≡ a → Led c a → Led c b
still_led c e h = subst (Led c) (sym e) h

-- ---- what is asked
pub next_by-next-requires : goal.next_by-next-requires
next_by-next-requires t c = (
  c.args.c.now.prepared.ruled,
  omega (arith, c.requires.1, states_most c.args.c.now.chart.now),
  c.requires.2.long,
)

pub goes_on-kids-requires : goal.goes_on-kids-requires
goes_on-kids-requires t c =
    let p = c.requires in
    let r = c.args.c.now.prepared.ruled in (
      r,
      p.1,
      course_child _ r _ p.2 c.args.course p.0 _ c.next_by-next.result c.next_by-next.ensures,
    )

pub arrive-requires : goal.arrive-requires
arrive-requires t c =
    let most = states_most c.args.c.now.chart.now in (
      omega (arith, c.loop-d-test.true, c.goes_on-kids.ensures.within, most),
      ap length c.loop-d.invariant.same ∙ c.requires.2.long,
      c.loop-d.invariant.owes.fits,
      omega (arith, c.requires.1, most),
    )

pub onward-on-requires : goal.onward-on-requires
onward-on-requires t c =
    let most = states_most c.args.c.now.chart.now in (
      omega (arith, c.loop-d-test.true, c.goes_on-kids.ensures.within, most),
      ap length (arrival_same _ _ c.args.course _ c.in_ok-then.ensures ∙ c.loop-d.invariant.same) ∙ c.requires.2.long,
    )

pub descend-requires : goal.descend-requires
descend-requires t c =
    let p = c.requires in
    let one = sym c.is_child.ensures ∙ not-false _ c.if-not-is_child.false-raw in
    let inside : c.loop-d.d < length (chart_of c.args.c.now.chart.now).states =
    omega (arith, c.loop-d-test.true, c.goes_on-kids.ensures.within) in (
      omega (arith, child_fewer _ (sound _ c.args.c.now.prepared.ruled).ordered _ _ one inside, c.decreases),
      (
        subst (Bound (chart_of c.args.c.now.chart.now)) (sym c.onward-on.ensures) (onward_bound _ _ _ c.args.course p.0),
        inside,
        still_led _ (arrival_same _ _ c.args.course _ c.in_ok-then.ensures ∙ c.loop-d.invariant.same) p.2,
        c.in_ok-then.ensures.fits,
      ),
    )

-- ---- the loop
pub loop-d-init : goal.loop-d-init
loop-d-init t c =
    let p = c.requires in
    going_begin _ _ c.args.course _ _ _ (course_sound _ c.args.c.now.prepared.ruled _ p.2 c.args.course p.0)
    c.next_by-next.ensures
    c.goes_on-kids.ensures p.3

pub loop-d-preserved-then-not-is_child : goal.loop-d-preserved-then-not-is_child
loop-d-preserved-then-not-is_child t c =
    going_skip _ _ _ _ _ _ c.loop-d.invariant c.loop-d-test.true
    (sym c.is_child.ensures ∙ not-true _ c.if-not-is_child.true-raw)

pub returns-in_err-then : goal.returns-in_err-then
returns-in_err-then t c =
    let q : c.from_residual.result ≡ Err c.in_err-then.field-0.0 = search rules in
    rw q (simp (to_z-of_z c.ranges.arg) at
    (going_stop _ _ _ _ _ _ c.loop-d.invariant c.loop-d-test.true (sym c.is_child.ensures ∙ not-false _ c.if-not-is_child.false-raw)
    c.in_err-then.ensures))

pub returns-in_err-then-2 : goal.returns-in_err-then-2
returns-in_err-then-2 t c =
    let q : c.from_residual-in_err-then-2.result ≡ Err c.in_err-then-2.field-0.0 = search rules in
    rw q (simp (to_z-of_z c.ranges.arg) at
    (going_stop_below _ _ _ _ _ _ c.loop-d.invariant c.loop-d-test.true
    (sym c.is_child.ensures ∙ not-false _ c.if-not-is_child.false-raw)
    c.in_ok-then.ensures c.requires.0 c.onward-on.ensures c.in_err-then-2.ensures))

pub loop-d-preserved : goal.loop-d-preserved
loop-d-preserved t c =
    going_on _ _ _ _ _ _ c.loop-d.invariant c.loop-d-test.true (sym c.is_child.ensures ∙ not-false _ c.if-not-is_child.false-raw)
    c.in_ok-then.ensures c.requires.0 c.onward-on.ensures c.in_ok-then-2.ensures

pub returns : goal.returns
returns t c =
    simp (to_z-of_z c.ranges.arg) at
    (going_end _ _ _ _ _ _ c.loop-d.invariant c.loop-d-test.false)
