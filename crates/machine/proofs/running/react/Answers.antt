-- `react` makes the event's step and then null steps, if there can be one. Assumes nothing.
use mathlib.Core.Path.{◌≡◌}
use native.Mathlib.Omega.{arith}
use borrow.Author.Rules.{rules}
use mir.Facts.{to_z-of_z}
use Rattle.std.specs.Prelude.{Err}
use Rattle.widget.proofs.Going.{then_stop, then_on}
use Rattle.plan_steps.proofs.Settling.{settles_none}
use Rattle.machine.proofs.running.react.Goals as goal

pub returns-in_err-next : goal.returns-in_err-next
returns-in_err-next c =
    let q : c.from_residual.result ≡ Err c.in_err-next.field-0.0 = search rules in
    rw q (then_stop _ (rw (to_z-of_z c.ranges.arg) at c.in_err-next.ensures))

pub returns-then-plan : goal.returns-then-plan
returns-then-plan c =
    let p = c.args.plan.now in
    let d = rw (to_z-of_z c.ranges.arg) at c.in_ok-next.ensures in
    then_on d (settles_none p.examined p.linked c.if-plan.true d.fits)

pub returns : goal.returns
returns c = then_on (rw (to_z-of_z c.ranges.arg) at c.in_ok-next.ensures) c.settle.ensures
