-- `slots_fit` tests the slots of the chart's states where the others are empty, else every one. Assumes nothing.
use mathlib.Core.Path.{refl, sym, ◌∙◌}
use native.Mathlib.Omega.{arith}
use lib.IntN.{negsuc}
use Rattle.sizes.specs.Sizes.{STATES}
use Rattle.numbers.specs.Equal.{eq_z}
use Rattle.chart_rows.proofs.Rows.{states_most}
use Rattle.widget.proofs.Every.{every_done}
use Rattle.queue_calls.proofs.own.slots_fit.Goals as goal

pub fit_below-requires : goal.fit_below-requires
fit_below-requires c =
    (c.requires, omega (arith, states_most c.args.chart.now), sym c.rest_empty.ensures ∙ c.if-rest_empty.true)

pub fit_below-requires-2 : goal.fit_below-requires-2
fit_below-requires-2 c =
    (c.requires, omega arith, sym (every_done (eq_z (negsuc 0)) c.args.slots.now STATES refl (omega (arith, c.requires))))
