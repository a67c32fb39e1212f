-- `perform_all` performs the acts of the owner's rows, in their order, going from row to row by the index. Assumes nothing.
use Rattle.std.proofs.Common.{◌≡◌, Err, rules}
use native.Mathlib.Omega.{arith}
use mir.Facts.{to_z-of_z}
use Rattle.acts.proofs.Acting.{acting_begin, acting_stop, acting_on, acting_later, acting_end, row_named}
use Rattle.acts.proofs.perform_all.Goals as goal

pub loop-i-init : goal.loop-i-init
loop-i-init c = acting_begin _ c.first_row-i.ensures c.requires.0

pub perform-requires : goal.perform-requires
perform-requires c = (
  row_named _ c.args.c.now.prepared.ruled c.loop-i.i
      (omega (arith, c.loop-i-test.true, c.action_count-n.ensures)) _ c.action_row-row.ensures,
  c.loop-i.invariant.owes.fits,
)

pub returns-in_err-next : goal.returns-in_err-next
returns-in_err-next c =
    let q : c.from_residual.result ≡ Err c.in_err-next.field-0.0 = search rules in
    rw q (rw (to_z-of_z c.ranges.arg) at
    (acting_stop c.loop-i.invariant
    (omega (arith, c.loop-i-test.true, c.action_count-n.ensures)) c.action_row-row.ensures
    c.act_var.ensures c.var_row-bounds.ensures c.in_err-next.ensures))

pub next_row-i-requires : goal.next_row-i-requires
next_row-i-requires c = omega (arith, c.loop-i-test.true, c.action_count-n.ensures)

pub loop-i-smaller : goal.loop-i-smaller
loop-i-smaller c =
    let later = acting_later c.loop-i.invariant
    (omega (arith, c.loop-i-test.true, c.action_count-n.ensures)) c.action_row-row.ensures _ c.next_row-i.ensures in
    omega (arith, c.loop-i-test.true)

pub loop-i-preserved : goal.loop-i-preserved
loop-i-preserved c =
    acting_on c.loop-i.invariant
    (omega (arith, c.loop-i-test.true, c.action_count-n.ensures)) c.action_row-row.ensures
    c.act_var.ensures c.var_row-bounds.ensures c.in_ok-next.ensures _ c.next_row-i.ensures

pub returns : goal.returns
returns c =
    rw (to_z-of_z c.ranges.arg) at
    (acting_end c.loop-i.invariant
    (omega (arith, c.loop-i-test.false, c.action_count-n.ensures)))
