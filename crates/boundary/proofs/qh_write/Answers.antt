-- `qh_write` tells what writing the chart gave. Assumes nothing.
use mathlib.Core.Path.{ap}
use Rattle.numbers.proofs.Laws.{back32}
use Rattle.telling.proofs.Told.{told_as}
use Rattle.boundary.proofs.qh_write.Goals as goal

pub returns : goal.returns
returns c = record {
  tells = told_as (back32 _ c.tell.type_inv) (ap (λ w. w.answer) c.write-written.ensures.result)
      (ap (λ w. w.length) c.write-written.ensures.result) c.tell.ensures;
  lent = c.write-written.ensures.lent;
}
