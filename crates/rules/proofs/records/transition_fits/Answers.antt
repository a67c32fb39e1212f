-- `transition_fits` tests field by field, each read where it stands. Assumes nothing.
use mathlib.Core.Path.{◌≡◌, ap, ◌∙◌}
use mathlib.Core.Bool.{Bool, ◌&&◌}
use borrow.Author.Tests.{le-leb, lt-leb}
use lib.Dec.{leb}
use Rattle.numbers.specs.Reference.{ref}
use Rattle.meaning.specs.Tree.{trans_row}
use Rattle.meaning.specs.Rules.{is_state, guard_fits, target_fits, transition_fits}
use Rattle.meaning.specs.Value.{chart_of, guard_by, target_by}
use Rattle.chart_rows.proofs.Said.{said_of, said_of2, said_of3}
use Rattle.chart_rows.proofs.Rows.{guard_said, source_said, target_said, trigger_said}
use Rattle.rules.proofs.Tests.{both, fails}
use Rattle.rules.proofs.records.transition_fits.Goals.{After-is_state, Then-is_state, After-event_count, Then-reference-event_count, After-guard_fits}
use Rattle.rules.proofs.records.transition_fits.Goals as goal

source_read : (c : After-is_state) → c.reference-source.result ≡ (trans_row (chart_of c.args.chart.now) c.args.i).source
source_read c =
    said_of ref c.number_at.type_inv c.number_at.ensures c.reference-source.ensures ∙ source_said c.args.chart.now c.args.i c.requires

source : (c : After-is_state) → c.is_state.result ≡ is_state (chart_of c.args.chart.now) (trans_row (chart_of c.args.chart.now) c.args.i).source
source c = c.is_state.ensures ∙ ap (is_state (chart_of c.args.chart.now)) (source_read c)

trigger : (c : After-event_count)
    → leb c.reference.result c.event_count.result
    ≡ leb (trans_row (chart_of c.args.chart.now) c.args.i).trigger (chart_of c.args.chart.now).events
trigger c =
    let m = c.number_at-then-is_state in
    rw (
      c.event_count.ensures,
      said_of ref m.type_inv m.ensures c.reference.ensures ∙ trigger_said c.args.chart.now c.args.i c.requires,
    )

guard : (c : After-guard_fits)
    → c.guard_fits.result ≡ guard_fits (chart_of c.args.chart.now) (trans_row (chart_of c.args.chart.now) c.args.i).guard
guard c =
    let x = c.number_at-then-reference-event_count in
    let y = c.number_at-then-reference-event_count-2 in
    let z = c.number_at-then-reference-event_count-3 in
    c.guard_fits.ensures ∙ ap (guard_fits (chart_of c.args.chart.now))
    (said_of3 guard_by x.type_inv x.ensures y.type_inv y.ensures z.type_inv z.ensures c.guard_by.ensures
    ∙ guard_said c.args.chart.now c.args.i c.requires)

-- the tests up to each one hold, and the rest is what is returned
past_source : (c : Then-is_state) {r q : Bool} → r ≡ q
    → r ≡ is_state (chart_of c.args.chart.now) (trans_row (chart_of c.args.chart.now) c.args.i).source && q
past_source c = both (source c.before) c.if-is_state.true

past_trigger : (c : Then-reference-event_count) {r q : Bool} → r ≡ q
    → r ≡ is_state (chart_of c.args.chart.now) (trans_row (chart_of c.args.chart.now) c.args.i).source
    && (leb (trans_row (chart_of c.args.chart.now) c.args.i).trigger (chart_of c.args.chart.now).events && q)
past_trigger c g =
    past_source c.before.before.before.before
    (both (trigger c.before) (le-leb c.reference.result c.event_count.result c.if-reference-event_count.true) g)

pub returns-then-guard_fits : goal.returns-then-guard_fits
unfolding transition_fits
returns-then-guard_fits c =
    let k = chart_of c.args.chart.now in
    let x = c.number_at-then-guard_fits in
    let y = c.number_at-then-guard_fits-2 in
    let d = c.before.before.before.before in
    let t = said_of2 target_by x.type_inv x.ensures y.type_inv y.ensures c.target_by.ensures
    ∙ target_said c.args.chart.now c.args.i c.requires in
    past_trigger d.before.before.before.before.before.before
    (both (guard d.before) c.if-guard_fits.true
    (c.target_fits.ensures
    ∙ ap (λ s. target_fits k s c.target_by.result) (source_read d.before.before.before.before.before.before.before.before.before.before.before)
    ∙ ap (target_fits k (trans_row k c.args.i).source) t))

pub returns-else-guard_fits : goal.returns-else-guard_fits
unfolding transition_fits
returns-else-guard_fits c =
    past_trigger c.before.before.before.before.before.before (fails _ (guard c.before) c.if-guard_fits.false)

pub returns-else-reference-event_count : goal.returns-else-reference-event_count
unfolding transition_fits
returns-else-reference-event_count c =
    past_source c.before.before.before.before
    (fails _ (trigger c.before) (lt-leb c.reference.result c.event_count.result c.if-reference-event_count.false))

pub returns-else-is_state : goal.returns-else-is_state
unfolding transition_fits
returns-else-is_state c = fails _ (source c.before) c.if-is_state.false
