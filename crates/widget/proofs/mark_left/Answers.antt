-- `mark_left` writes the entry of a state left, clears its mark and stores it in the slot of its o parent, where it has one.
-- Assumes nothing.
use Rattle.std.proofs.Common.{◌≡◌, Err, None, rules, ◌∙◌}
use Rattle.numbers.proofs.Laws.{back32}
use Rattle.widget.proofs.Effects.{left_stop, left_alone, left_in}
use Rattle.widget.proofs.mark_left.Goals as goal

pub returns-in_err-next : goal.returns-in_err-next
returns-in_err-next c =
    let q : c.from_residual.result ≡ Err c.in_err-next.field-0.0 = search rules in
    rw q (left_stop _ _ c.in_err-next.ensures)

pub returns-in-Some : goal.returns-in-Some
returns-in-Some c =
    let n = c.number in
    rw c.in-Some.is (left_in _ _ c.in_ok-next.ensures (back32 n.result n.type_inv ∙ n.ensures))

pub returns-in_default : goal.returns-in_default
returns-in_default c =
    let q : c.args.p ≡ None = c.in_default.is in
    rw q (left_alone _ c.in_ok-next.ensures)
