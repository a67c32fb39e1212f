-- `leave_below` leaves the active states below s, the highest number first. Assumes nothing.
use Rattle.std.proofs.Common.{◌≡◌, Err, rules, arith}
use mir.Facts.{to_z-of_z}
use Rattle.chart_rows.proofs.Rows.{states_most}
use Rattle.leave_enter.proofs.Falling.{leaving_begin, leaving_skip, leaving_stop, leaving_on, leaving_end}
use Rattle.leave_enter.proofs.leaving.leave_below.Goals as goal

pub loop-d-init : goal.loop-d-init
loop-d-init c = leaving_begin c.args.c.now.prepared.ruled c.requires.0 c.requires.2 c.requires.1

pub bounds-widget-d : goal.bounds-widget-d
bounds-widget-d c = omega (arith, states_most c.args.c.now.chart.now, c.loop-d.invariant.top)

pub loop-d-preserved-then-not-widget-d : goal.loop-d-preserved-then-not-widget-d
loop-d-preserved-then-not-widget-d c = leaving_skip c.loop-d.invariant (omega arith) c.if-not-widget-d.true

pub leave-requires : goal.leave-requires
leave-requires c = (
  omega (arith, states_most c.args.c.now.chart.now, c.loop-d.invariant.top),
  c.loop-d.invariant.owes.fits,
)

pub returns-in_err-next : goal.returns-in_err-next
returns-in_err-next c =
    let q : c.from_residual.result ≡ Err c.in_err-next.field-0.0 = search rules in
    rw q (rw (to_z-of_z c.ranges.arg) at
    (leaving_stop c.loop-d.invariant (omega arith) c.if-not-widget-d.false c.in_err-next.ensures))

pub loop-d-preserved : goal.loop-d-preserved
loop-d-preserved c = leaving_on c.loop-d.invariant (omega arith) c.if-not-widget-d.false c.in_ok-next.ensures

pub returns : goal.returns
returns c = rw (to_z-of_z c.ranges.arg) at (leaving_end c.loop-d.invariant (omega arith))
