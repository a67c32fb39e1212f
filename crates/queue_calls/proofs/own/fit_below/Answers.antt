-- `fit_below` looks at the components where the slots are not found to fit without it. Assumes nothing.
use mathlib.Core.Path.{sym, ◌∙◌}
use Rattle.meaning.specs.Value.{chart_of}
use Rattle.queue_calls.proofs.Components.{fit_without, fit_with, fit_not}
use Rattle.queue_calls.proofs.own.fit_below.Goals as goal

pub returns-then-each_fits : goal.returns-then-each_fits
returns-then-each_fits c u e =
    c.if-each_fits.true ∙ fit_without (chart_of c.args.chart.now) u (sym (c.each_fits.ensures u e) ∙ c.if-each_fits.true)

pub returns-else-components_filled : goal.returns-else-components_filled
returns-else-components_filled c u e =
    let f = c.components_filled in
    c.if-components_filled.false ∙ fit_not (chart_of c.args.chart.now) u f.result (f.ensures u e) c.if-components_filled.false

pub returns-then-components_filled : goal.returns-then-components_filled
returns-then-components_filled c u e =
    let f = c.components_filled in
    fit_with (chart_of c.args.chart.now) u f.result (f.ensures u e)
    c.if-components_filled.true (c.each_fits-then-components_filled.ensures u e)

pub each_fits-requires : goal.each_fits-requires
each_fits-requires c = c.requires

pub components_filled-requires : goal.components_filled-requires
components_filled-requires c = c.requires.0

pub each_fits-requires-then-components_filled : goal.each_fits-requires-then-components_filled
each_fits-requires-then-components_filled c = c.requires
