-- `own` is the clauses of the test in turn. Assumes nothing.
use mathlib.Core.Path.{sym, ◌∙◌}
use Rattle.plan_choice.proofs.Facts.{counts_sized}
use Rattle.plan_own.proofs.Clauses.{states_is, events_is, own_rootless, own_marked, own_out, own_astray, own_unused, own_rest}
use Rattle.plan_own.proofs.own.Goals as goal

pub returns-else-active : goal.returns-else-active
returns-else-active c = c.if-active.false ∙ own_rootless _ _ _ c.args.state c.if-active.false

pub returns-else-marks_fit : goal.returns-else-marks_fit
returns-else-marks_fit c =
    c.if-marks_fit.false ∙ own_marked _ _ _ c.args.state c.if-active.true
    (states_is c.requires) (sym c.marks_fit.ensures ∙ c.if-marks_fit.false)

pub returns-else-values_fit : goal.returns-else-values_fit
returns-else-values_fit c =
    c.if-values_fit.false ∙ own_out _ _ _ c.args.state c.if-active.true
    (states_is c.requires)
    (sym c.marks_fit.ensures ∙ c.if-marks_fit.true)
    (sym c.values_fit.ensures ∙ c.if-values_fit.false)

pub returns-else-slots_fit : goal.returns-else-slots_fit
returns-else-slots_fit c =
    c.if-slots_fit.false ∙ own_astray _ _ _ c.args.state
    c.if-active.true
    (states_is c.requires)
    (sym c.marks_fit.ensures ∙ c.if-marks_fit.true)
    (sym c.values_fit.ensures ∙ c.if-values_fit.true)
    (sym c.slots_fit.ensures ∙ c.if-slots_fit.false)

pub returns-else-rest_empty : goal.returns-else-rest_empty
returns-else-rest_empty c =
    c.if-rest_empty.false ∙ own_unused _ _ _ c.args.state
    c.if-active.true (states_is c.requires)
    (sym c.marks_fit.ensures ∙ c.if-marks_fit.true)
    (sym c.values_fit.ensures ∙ c.if-values_fit.true)
    (sym c.slots_fit.ensures ∙ c.if-slots_fit.true)
    (sym c.rest_empty.ensures ∙ c.if-rest_empty.false)

pub returns-then-rest_empty : goal.returns-then-rest_empty
returns-then-rest_empty c =
    own_rest _ _ _ c.args.state
    c.if-active.true
    (states_is c.requires)
    (sym c.marks_fit.ensures ∙ c.if-marks_fit.true)
    (sym c.values_fit.ensures ∙ c.if-values_fit.true)
    (sym c.slots_fit.ensures ∙ c.if-slots_fit.true)
    (sym c.rest_empty.ensures ∙ c.if-rest_empty.true)
    (events_is c.requires) c.queue_fits.ensures

pub values_fit-requires : goal.values_fit-requires
values_fit-requires c = c.requires

pub slots_fit-requires : goal.slots_fit-requires
slots_fit-requires c = (counts_sized c.requires).states
