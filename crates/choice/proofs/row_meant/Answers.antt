-- `row_meant` compares the source, then the trigger. Assumes nothing.
use mathlib.Core.Path.{◌∙◌}
use borrow.Author.Tests.{ne_eqb}
use Rattle.choice.proofs.Rows.{other_source, own_source}
use Rattle.choice.proofs.row_meant.Goals as goal

pub returns-then-source_at-s : goal.returns-then-source_at-s
returns-then-source_at-s c = own_source _ _ _ _ _ c.source_at.ensures c.if-source_at-s.true c.trigger_at.ensures

pub returns-else-source_at-s : goal.returns-else-source_at-s
returns-else-source_at-s c = ne_eqb _ _ c.if-source_at-s.false ∙ other_source _ _ _ _ c.source_at.ensures c.if-source_at-s.false
