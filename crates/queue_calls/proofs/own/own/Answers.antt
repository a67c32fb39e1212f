-- `own` is the clauses of the test in turn. Assumes nothing.
use mathlib.Core.Path.{refl, sym, ◌∙◌}
use Rattle.meaning.specs.Value.{chart_of}
use Rattle.queue_calls.proofs.Whole.{own_illegal, own_marked, own_out, own_astray, own_rest}
use Rattle.queue_calls.proofs.own.own.Goals as goal

pub returns-else-legal : goal.returns-else-legal
returns-else-legal c = c.if-legal.false ∙ own_illegal (chart_of c.args.chart.now) c.args.state
    (sym (c.legal.ensures c.args.state refl) ∙ c.if-legal.false)

pub returns-else-marks_fit : goal.returns-else-marks_fit
returns-else-marks_fit c = c.if-marks_fit.false ∙ own_marked (chart_of c.args.chart.now) c.args.state
    (sym (c.legal.ensures c.args.state refl) ∙ c.if-legal.true)
    c.state_count.ensures (sym c.marks_fit.ensures ∙ c.if-marks_fit.false)

pub returns-else-values_fit : goal.returns-else-values_fit
returns-else-values_fit c = c.if-values_fit.false ∙ own_out (chart_of c.args.chart.now) c.args.state
    (sym (c.legal.ensures c.args.state refl) ∙ c.if-legal.true)
    c.state_count.ensures (sym c.marks_fit.ensures ∙ c.if-marks_fit.true)
    (sym c.values_fit.ensures ∙ c.if-values_fit.false)

pub returns-else-slots_fit : goal.returns-else-slots_fit
returns-else-slots_fit c = c.if-slots_fit.false ∙ own_astray (chart_of c.args.chart.now) c.args.state
    (sym (c.legal.ensures c.args.state refl) ∙ c.if-legal.true)
    c.state_count.ensures (sym c.marks_fit.ensures ∙ c.if-marks_fit.true)
    (sym c.values_fit.ensures ∙ c.if-values_fit.true)
    (sym (c.slots_fit.ensures c.args.state refl) ∙ c.if-slots_fit.false)

pub returns-then-slots_fit : goal.returns-then-slots_fit
returns-then-slots_fit c = own_rest (chart_of c.args.chart.now) c.args.state
    (sym (c.legal.ensures c.args.state refl) ∙ c.if-legal.true)
    c.state_count.ensures (sym c.marks_fit.ensures ∙ c.if-marks_fit.true)
    (sym c.values_fit.ensures ∙ c.if-values_fit.true)
    (sym (c.slots_fit.ensures c.args.state refl) ∙ c.if-slots_fit.true)
    c.event_count.ensures c.queue_fits.ensures
