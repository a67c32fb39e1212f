-- `event_count` is the count of the E record. Assumes nothing.
use Rattle.numbers.specs.Reference.{ref}
use mathlib.Core.Path.{sym, ◌∙◌}
use Rattle.chart_rows.proofs.Rows.{events_count}
use Rattle.chart_rows.proofs.Said.{said_of}
use Rattle.chart_rows.proofs.event_count.Goals as goal

pub returns : goal.returns
returns c = said_of ref c.number_at.type_inv c.number_at.ensures c.reference.ensures ∙ sym (events_count _)
