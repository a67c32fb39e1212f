-- `mark_entered` writes the entry of a state entered and sets its mark. Assumes nothing.
use Rattle.std.proofs.Common.{◌≡◌, Err, rules}
use Rattle.widget.proofs.Effects.{entered_stop, entered_on}
use Rattle.widget.proofs.mark_entered.Goals as goal

pub returns-in_err-next : goal.returns-in_err-next
returns-in_err-next c =
    let q : c.from_residual.result ≡ Err c.in_err-next.field-0.0 = search rules in
    rw q (entered_stop _ c.in_err-next.ensures)

pub returns : goal.returns
returns c = entered_on _ c.in_ok-next.ensures
