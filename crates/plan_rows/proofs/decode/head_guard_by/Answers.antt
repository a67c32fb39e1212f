-- `head_guard_by` goes by the number of the sign. Assumes nothing.
use native.Mathlib.Omega.{arith}
use mir.Facts.{to_z-of_z}
use Rattle.numbers.specs.Reference.{ref}
use Rattle.chart_rows.proofs.Said.{said, said_own}
use Rattle.plan_rows.proofs.Codes.{equal_said, less_said, more_said, always_said}
use Rattle.plan_rows.proofs.decode.head_guard_by.Goals as goal

pub returns-in-1 : goal.returns-in-1
returns-in-1 c =
    equal_said c.args.v c.args.g c.args.x (said ref c.ranges.g c.reference.ensures
    c.in-1.is)
    (said_own ref c.ranges.v c.reference-in-1.ensures) (to_z-of_z c.ranges.x)

pub returns-in-2 : goal.returns-in-2
returns-in-2 c =
    less_said c.args.v c.args.g c.args.x (said ref c.ranges.g c.reference.ensures
    c.in-2.is)
    (said_own ref c.ranges.v c.reference-in-2.ensures) (to_z-of_z c.ranges.x)

pub returns-in-3 : goal.returns-in-3
returns-in-3 c =
    more_said c.args.v c.args.g c.args.x (said ref c.ranges.g c.reference.ensures
    c.in-3.is)
    (said_own ref c.ranges.v c.reference-in-3.ensures) (to_z-of_z c.ranges.x)

pub returns-in_default : goal.returns-in_default
returns-in_default c =
    let e = said_own ref c.ranges.g c.reference.ensures in
    always_said c.args.v c.args.g c.args.x (λ z. omega (arith, e, z)) (λ z. omega (arith, e, z)) (λ z. omega (arith, e, z))
