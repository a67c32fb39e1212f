-- `enter` marks a state as entered, then performs its entry actions. Assumes nothing.
use Rattle.std.proofs.Common.{◌≡◌, Err, rules}
use mir.Facts.{to_z-of_z}
use Rattle.meaning.specs.Effects.{enter}
use Rattle.widget.proofs.Going.{then_on, then_stop}
use Rattle.acts.proofs.enter.Goals as goal

pub returns-in_err-next : goal.returns-in_err-next
unfolding enter
returns-in_err-next c =
    let q : c.from_residual.result ≡ Err c.in_err-next.field-0.0 = search rules in
    rw q (then_stop _ c.in_err-next.ensures)

pub returns : goal.returns
unfolding enter
returns c = then_on c.in_ok-next.ensures (rw (to_z-of_z c.ranges.arg) at c.perform_all.ensures)
