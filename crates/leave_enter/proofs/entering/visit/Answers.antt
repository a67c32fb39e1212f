-- `visit` performs the default actions where due, then enters. Assumes nothing.
use Rattle.std.proofs.Common.{◌≡◌, Err, rules}
use mir.Facts.{to_z-of_z}
use Rattle.leave_enter.proofs.Visiting.{visited_plain, visited_stop, visited_on}
use Rattle.leave_enter.proofs.entering.visit.Goals as goal

pub returns-then-not-by_default : goal.returns-then-not-by_default
returns-then-not-by_default c =
    visited_plain _ _ _ _ c.by_default.ensures c.if-not-by_default.true-raw
    (rw (to_z-of_z c.ranges.arg) at c.enter.ensures)

pub returns-in_err-then : goal.returns-in_err-then
returns-in_err-then c =
    let q : c.from_residual.result ≡ Err c.in_err-then.field-0.0 = search rules in
    rw q (visited_stop _ _ _ _ c.by_default.ensures c.if-not-by_default.false-raw
    (rw (to_z-of_z c.ranges.arg) at c.in_err-then.ensures))

pub returns : goal.returns
returns c =
    visited_on _ _ _ _ c.by_default.ensures c.if-not-by_default.false-raw
    (rw (to_z-of_z c.ranges.arg) at c.in_ok-then.ensures)
    (rw (to_z-of_z c.ranges.arg) at c.enter-2.ensures)
