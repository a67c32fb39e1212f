-- `compile`: what the rules refuse leaves 0; what they let pass is compiled. Assumes nothing.
use mathlib.Core.Path.{refl}
use Rattle.meaning.proofs.Refusals.{not_done}
use Rattle.compiler.proofs.Whole.{passed, compiles_refused}
use Rattle.compiler.proofs.compile.Goals as goal

pub returns-in-Err : goal.returns-in-Err
returns-in-Err c =
    rw (c.number.ensures, c.place.ensures)
    (compiles_refused c.args.chart.now c.args.plan.now _ c.in-Err.ensures (not_done c.in-Err.refusal) _ c.clear_from.ensures)

pub compile_passed-requires : goal.compile_passed-requires
compile_passed-requires c = passed c.args.chart.now c.args.plan.now _ c.in_default.ensures refl

pub returns : goal.returns
returns c = c.compile_passed.ensures
