-- `event_fits` tests an event by what it names. Assumes nothing.
use mathlib.Core.Path.{ap, ◌∙◌}
use mathlib.Core.Bool.{not}
use borrow.Author.Tests.{eq-eqb, lt-leb}
use mir.Facts.{to_z-of_z}
use Rattle.widget.proofs.Tests.{event_names, event_below, event_zero, event_past, event_in}
use Rattle.widget.proofs.fits.event_fits.Goals as goal

pub returns-in_default : goal.returns-in_default
returns-in_default c =
    event_below c.args.events c.args.event
    c.args.arg
    (rw (to_z-of_z c.ranges.event) at c.place_of.ensures)
    c.in_default.is

pub returns-else-e-ne0 : goal.returns-else-e-ne0
returns-else-e-ne0 c =
    ap not (eq-eqb c.in-Some.e 0 c.if-e-ne0.false) ∙ event_zero c.args.events c.args.event
    c.args.arg _
    (event_names c.args.event c.in-Some.e
    (rw (to_z-of_z c.ranges.event) at c.place_of.ensures)
    c.in-Some.is) c.if-e-ne0.false

pub returns-else-e-events : goal.returns-else-e-events
returns-else-e-events c =
    lt-leb c.in-Some.e c.args.events c.if-e-events.false ∙ event_past c.args.events c.args.event
    c.args.arg _
    (event_names c.args.event c.in-Some.e
    (rw (to_z-of_z c.ranges.event) at c.place_of.ensures)
    c.in-Some.is) c.if-e-ne0.true c.if-e-events.false

pub returns-then-e-events : goal.returns-then-e-events
returns-then-e-events c =
    (rw (to_z-of_z c.ranges.arg) at c.in_range.ensures) ∙ event_in
    c.args.events c.args.event
    c.args.arg _
    (event_names c.args.event c.in-Some.e
    (rw (to_z-of_z c.ranges.event) at c.place_of.ensures)
    c.in-Some.is) c.if-e-ne0.true c.if-e-events.true
