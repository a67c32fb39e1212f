-- `qh_compile` tells what compiling the chart gave. Assumes nothing.
use mathlib.Core.Path.{ap}
use Rattle.numbers.proofs.Laws.{back32}
use Rattle.telling.proofs.Told.{told_as}
use Rattle.boundary.proofs.qh_compile.Goals as goal

pub returns : goal.returns
returns c = record {
  tells = told_as (back32 _ c.tell.type_inv) (ap (λ w. w.answer) c.compile-compiled.ensures.result)
      (ap (λ w. w.length) c.compile-compiled.ensures.result) c.tell.ensures;
  lent = c.compile-compiled.ensures.lent;
}
