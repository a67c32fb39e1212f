-- `qh_read` tells what reading the text gave. Assumes nothing.
use mathlib.Core.Path.{refl}
use Rattle.numbers.proofs.Laws.{back32}
use Rattle.telling.proofs.Told.{told_as}
use Rattle.boundary.proofs.qh_read.Goals as goal

pub returns : goal.returns
returns c = record {
  tells = told_as (back32 _ c.tell.type_inv) c.read-read.ensures.result refl c.tell.ensures;
  lent = c.read-read.ensures.lent;
}
