-- `leave` marks a state as left, then performs its exit actions. Assumes nothing.
use Rattle.std.proofs.Common.{◌≡◌, Err, rules}
use mir.Facts.{to_z-of_z}
use Rattle.meaning.specs.Effects.{leave}
use Rattle.widget.proofs.Going.{then_on, then_stop}
use Rattle.acts.proofs.Marking.{o_parent_in}
use Rattle.acts.proofs.leave.Goals as goal

pub mark_left-requires : goal.mark_left-requires
mark_left-requires c = (
  o_parent_in _ c.args.c.now.prepared.ruled _ c.o_parent.ensures (search rules),
  search rules,
  search rules,
)

pub returns-in_err-next : goal.returns-in_err-next
unfolding leave
returns-in_err-next c =
    let q : c.from_residual.result ≡ Err c.in_err-next.field-0.0 = search rules in
    rw q (then_stop _ (rw c.o_parent.ensures at c.in_err-next.ensures))

pub returns : goal.returns
unfolding leave
returns c = then_on (rw c.o_parent.ensures at c.in_ok-next.ensures) (rw (to_z-of_z c.ranges.arg) at c.perform_all.ensures)
