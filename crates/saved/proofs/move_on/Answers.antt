-- `move_on` stores over numbers that stated a widget. Assumes nothing.
use mathlib.Core.Path.{sym, ◌∙◌}
use Rattle.saved.proofs.Storing.{stayed, stored_over}
use Rattle.saved.proofs.move_on.Goals as goal

pub returns-then-states_widget : goal.returns-then-states_widget
returns-then-states_widget c =
    stored_over _ _ _ (sym c.states_widget.ensures ∙ c.if-states_widget.true)
    c.store.ensures

pub returns-else-states_widget : goal.returns-else-states_widget
returns-else-states_widget c = stayed _ _ (sym c.states_widget.ensures ∙ c.if-states_widget.false)
