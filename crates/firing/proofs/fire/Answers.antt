-- `fire` goes by where the transition leads. Assumes nothing.
use Rattle.std.proofs.Common.{◌≡◌, Err, rules, arith}
use mir.Facts.{to_z-of_z}
use Rattle.chart_rows.proofs.Rows.{transitions_most}
use Rattle.meaning.specs.Reaction.{fire}
use Rattle.widget.proofs.Going.{then_stop}
use Rattle.firing.proofs.Taking.{goes_bound, goes_inside, fired_goes, fired_stays}
use Rattle.firing.proofs.fire.Goals as goal

pub mark_taken-requires : goal.mark_taken-requires
mark_taken-requires c = (omega (arith, c.requires.0, transitions_most c.args.c.now.chart.now), c.requires.3)

pub returns-in_err-taken : goal.returns-in_err-taken
unfolding fire
returns-in_err-taken c =
    let q : c.from_residual.result ≡ Err c.in_err-taken.field-0.0 = search rules in
    rw q (then_stop _ (c.in_err-taken.ensures c.args.widget.now))

pub perform_all-requires : goal.perform_all-requires
perform_all-requires c = (
  (c.in_ok-taken.ensures c.args.widget.now).fits,
  omega (arith, c.requires.0, transitions_most c.args.c.now.chart.now),
)

pub returns-in_default : goal.returns-in_default
returns-in_default c =
    fired_stays _ _ _ (c.in_ok-taken.ensures c.args.widget.now) _ c.trans_row-row.ensures c.aim_of.ensures c.in_default.is
    (rw (to_z-of_z c.ranges.arg) at c.perform_all.ensures)

pub move_to-requires : goal.move_to-requires
move_to-requires c =
    let p = c.requires in
    let r = c.args.c.now.prepared.ruled in (
      goes_bound _ r _ p.0 _ c.trans_row-row.ensures c.aim_of.ensures c.in-Some.is,
      goes_inside _ r _ p.0 _ c.trans_row-row.ensures c.aim_of.ensures c.in-Some.is p.1,
      p.1.ends,
      p.2,
      (c.in_ok-taken.ensures c.args.widget.now).fits,
      omega (arith, p.0, transitions_most c.args.c.now.chart.now),
    )

pub returns : goal.returns
returns c =
    fired_goes _ _ _ (c.in_ok-taken.ensures c.args.widget.now) _ c.trans_row-row.ensures c.aim_of.ensures c.in-Some.is c.requires.1
    (rw (to_z-of_z c.ranges.arg) at c.move_to.ensures)
