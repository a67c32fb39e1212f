-- `enabled` tries trigger, source and guard in turn. Assumes nothing.
use mathlib.Core.Path.{refl, ◌∙◌}
use borrow.Author.Tests.{ne_eqb}
use Rattle.choice.proofs.Seen.{off_trigger, off_source, on_guard}
use Rattle.choice.proofs.enabled.Goals as goal

pub returns-then-active-row : goal.returns-then-active-row
returns-then-active-row c = c.guard_true.ensures ∙ on_guard _ _ _ _ refl c.if-row-event.true c.if-active-row.true

pub returns-else-active-row : goal.returns-else-active-row
returns-else-active-row c = c.if-active-row.false ∙ off_source _ _ _ c.if-active-row.false

pub returns-else-row-event : goal.returns-else-row-event
returns-else-row-event c = ne_eqb _ _ c.if-row-event.false ∙ off_trigger _ _ _ c.if-row-event.false
