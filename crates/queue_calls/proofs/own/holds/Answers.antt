-- `holds` compares what stands in the slot; past the last slot nothing stands. Assumes nothing.
use mathlib.Core.Path.{◌≡◌, ap, ◌∙◌}
use native.Mathlib.Omega.{arith}
use borrow.Author.Rules.{rules}
use mir.Facts.{to_z-of_z}
use mir.Syntax.{w32}
use mir.Val.{SFits}
use borrow.Author.Tests.{le-ltb}
use lib.IntN.{pos}
use lib.ListN.{length, get_or}
use Rattle.numbers.specs.Place.{place_of}
use Rattle.queue_calls.proofs.Slots.{at_is}
use Rattle.queue_calls.proofs.Components.{at_past, at_told}
use Rattle.queue_calls.proofs.own.holds.Goals.{After-place_of}
use Rattle.queue_calls.proofs.own.holds.Goals as goal

read : (c : After-place_of) → c.place_of.result ≡ place_of (get_or c.args.slots.now c.args.s (pos 0))
read c =
    let fx : SFits w32 (get_or c.args.slots.now c.args.s (pos 0)) = search rules in
    rw (to_z-of_z fx) at c.place_of.ensures

pub returns-then-s-lt-STATES : goal.returns-then-s-lt-STATES
returns-then-s-lt-STATES c u e =
    c.eq.ensures ∙ at_is c.args.d c.place_of.result
    ∙ at_told u e c.args.d c.args.s (omega (arith, c.requires, c.if-s-lt-STATES.true)) (read (goal.at.returns-then-s-lt-STATES c).After-place_of)

pub returns-else-s-lt-STATES : goal.returns-else-s-lt-STATES
returns-else-s-lt-STATES c u e =
    le-ltb _ _ c.if-s-lt-STATES.false ∙ at_past u c.args.d c.args.s (omega (arith, ap length e, c.requires, c.if-s-lt-STATES.false))
