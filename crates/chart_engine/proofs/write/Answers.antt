-- `write` checks the rules first. Assumes nothing.
use mathlib.Core.Path.{refl}
use native.Mathlib.Omega.{arith}
use Rattle.meaning.proofs.Refusals.{not_done}
use Rattle.chart_engine.proofs.ByRules.{accepted}
use Rattle.chart_engine.proofs.TextKept.{write_3, writes}
use Rattle.chart_engine.proofs.write.Goals as goal

pub returns-in-Err : goal.returns-in-Err
returns-in-Err c =
    rw (c.number.ensures, c.place.ensures)
    (write_3 c.in-Err.ensures (not_done c.in-Err.refusal) (omega arith) (c.fill.ensures.after (λ y h. h)))

pub write_passed-requires : goal.write_passed-requires
write_passed-requires c = accepted c.in_default.ensures refl

pub returns : goal.returns
returns c = writes c.write_passed.ensures
