-- `main` runs the session only where the chart was read, and writes within the slice. Assumes nothing.
use native.Mathlib.Omega.{arith}
use Rattle.session.proofs.Opening.{ended_whole, opens_whole, opens_ruled}
use borrow.Author.Rules.{rules}
use Rattle.trace.proofs.main.Goals as goal

pub run_session-requires : goal.run_session-requires
run_session-requires c =
    let w = opens_whole _ _ _ _ _ _ c.in-Ok.ensures (omega arith) in
    (opens_ruled _ _ _ _ _ _ c.in-Ok.ensures, omega arith, omega arith, search rules)

pub print-requires : goal.print-requires
print-requires c =
    let w = ended_whole _ _ _ _ _ _ c.in-Err.ensures (omega arith) in
    omega arith
