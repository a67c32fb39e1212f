-- `end` stores the state after a call that is done. Assumes nothing.
use mathlib.Core.Path.{◌∙◌}
use Rattle.numbers.proofs.Laws.{back32}
use Rattle.telling.proofs.Told.{ends_done, ends_left}
use Rattle.telling.proofs.end.Goals.{then-called-eq0, else-called-eq0}
use Rattle.telling.proofs.end.Goals as goal

pub returns : goal.returns
returns c =
    elim c.if-called-eq0.branch [
      | then-called-eq0 w ↦
          ends_done c.args.called w.if-called-eq0.true (w.widget-is ∙ w.store.ensures) (back32 _ c.tell.type_inv) c.tell.ensures
      | else-called-eq0 w ↦
          ends_left c.args.called w.if-called-eq0.false w.widget-is (back32 _ c.tell.type_inv) c.tell.ensures
    ]
