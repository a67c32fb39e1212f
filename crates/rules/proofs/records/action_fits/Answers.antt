-- `action_fits` tests the owner, then the act. Assumes nothing.
use mathlib.Core.Path.{◌≡◌, ap, ◌∙◌}
use lib.ListN.{get_or}
use Rattle.meaning.specs.Chart.{no_action}
use Rattle.meaning.specs.Rules.{owner_fits, act_fits, action_fits}
use Rattle.meaning.specs.Value.{chart_of, owner_by, act_by}
use Rattle.chart_rows.proofs.Said.{said_of2, said_of3}
use Rattle.chart_rows.proofs.Rows.{act_said, owner_said}
use Rattle.rules.proofs.Tests.{both, fails}
use Rattle.rules.proofs.records.action_fits.Goals.{After-owner_fits}
use Rattle.rules.proofs.records.action_fits.Goals as goal

owner : (c : After-owner_fits)
    → c.owner_fits.result
    ≡ owner_fits (chart_of c.args.chart.now) (get_or (chart_of c.args.chart.now).actions c.args.i no_action).owner
owner c =
    let m = c.number_at in
    let n = c.number_at-2 in
    c.owner_fits.ensures ∙ ap (owner_fits (chart_of c.args.chart.now))
    (said_of2 owner_by m.type_inv m.ensures n.type_inv n.ensures c.owner_by.ensures ∙ owner_said c.args.chart.now c.args.i c.requires)

pub returns-then-owner_fits : goal.returns-then-owner_fits
unfolding action_fits
returns-then-owner_fits c =
    let x = c.number_at-then-owner_fits in
    let y = c.number_at-then-owner_fits-2 in
    let z = c.number_at-then-owner_fits-3 in
    both (owner c.before.before.before.before.before.before) c.if-owner_fits.true
    (c.act_fits.ensures ∙ ap (act_fits (chart_of c.args.chart.now))
    (said_of3 act_by x.type_inv x.ensures y.type_inv y.ensures z.type_inv z.ensures c.act_by.ensures
    ∙ act_said c.args.chart.now c.args.i c.requires))

pub returns-else-owner_fits : goal.returns-else-owner_fits
unfolding action_fits
returns-else-owner_fits c = fails _ (owner c.before) c.if-owner_fits.false
