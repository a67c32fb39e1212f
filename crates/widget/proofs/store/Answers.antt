-- `store` writes the entry of a variable's new value and then stores it. Assumes nothing.
use Rattle.std.proofs.Common.{◌≡◌, Err, rules}
use mir.Facts.{to_z-of_z}
use Rattle.widget.proofs.Effects.{stored_stop, stored_on}
use Rattle.widget.proofs.store.Goals as goal

pub returns-in_err-next : goal.returns-in_err-next
returns-in_err-next c =
    let v = to_z-of_z c.ranges.value in
    let q : c.from_residual.result ≡ Err c.in_err-next.field-0.0 = search rules in
    rw q (stored_stop _ _ (rw v at c.in_err-next.ensures))

pub returns : goal.returns
returns c =
    let v = to_z-of_z c.ranges.value in
    rw v (stored_on _ _ (rw v at c.in_ok-next.ensures))
