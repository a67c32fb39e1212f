-- `filled` tells a state from the empty marker. Assumes nothing.
use mathlib.Core.Path.{ap, ◌∙◌}
use mir.Facts.{to_z-of_z}
use Rattle.std.specs.Option.{is_some}
use Rattle.queue_calls.proofs.Slots.{filled_is}
use Rattle.queue_calls.proofs.own.filled.Goals as goal

pub returns : goal.returns
returns c =
    c.is_some.ensures ∙ ap (λ p. is_some p) (rw (to_z-of_z c.ranges.x) at c.place_of.ensures) ∙ filled_is _
