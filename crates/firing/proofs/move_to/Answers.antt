-- `move_to` leaves the span, performs the transition's actions, and goes down to the goal. Assumes nothing.
use Rattle.std.proofs.Common.{◌≡◌, Err, rules}
use mir.Facts.{to_z-of_z}
use Rattle.widget.proofs.Going.{then_on, then_stop}
use Rattle.firing.specs.Moving.{moving}
use Rattle.firing.proofs.Taking.{left_led, acted_led}
use Rattle.firing.proofs.move_to.Goals as goal

pub returns-in_err-left : goal.returns-in_err-left
unfolding moving
returns-in_err-left c =
    let q : c.from_residual.result ≡ Err c.in_err-left.field-0.0 = search rules in
    rw q (then_stop _ (rw (to_z-of_z c.ranges.arg) at c.in_err-left.ensures))

pub returns-in_err-acted : goal.returns-in_err-acted
unfolding moving
returns-in_err-acted c =
    let q : c.from_residual-in_err-acted.result ≡ Err c.in_err-acted.field-0.0 = search rules in
    rw q (then_on (rw (to_z-of_z c.ranges.arg) at c.in_ok-left.ensures)
    (then_stop _ (rw (to_z-of_z c.ranges.arg) at c.in_err-acted.ensures)))

pub descend-requires : goal.descend-requires
descend-requires c =
    let r = c.args.c.now.prepared.ruled in (
      c.requires.0,
      c.requires.1,
      acted_led _ r _ _ c.in_ok-acted.ensures (left_led _ r _ _ c.in_ok-left.ensures c.requires.3),
      c.in_ok-acted.ensures.fits,
    )

pub returns : goal.returns
unfolding moving
returns c =
    then_on (rw (to_z-of_z c.ranges.arg) at c.in_ok-left.ensures)
    (then_on (rw (to_z-of_z c.ranges.arg) at c.in_ok-acted.ensures) (rw (to_z-of_z c.ranges.arg) at c.descend.ensures))
