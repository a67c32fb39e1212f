-- `owner_fits` goes by cases. Assumes nothing.
use mathlib.Core.Logic.{inl, inr}
use Rattle.rules.proofs.Tests.{both, fails}
use Rattle.meaning.specs.Rules.{owner_fits}
use Rattle.rules.proofs.records.owner_fits.Goals as goal

pub returns-then-is_state : goal.returns-then-is_state
unfolding owner_fits
returns-then-is_state c =
    rw c.in-DefaultOf.is (both c.is_state.ensures c.if-is_state.true (rw c.kind_of.ensures at c.is_o.ensures))

pub returns-else-is_state : goal.returns-else-is_state
unfolding owner_fits
returns-else-is_state c = rw c.in-DefaultOf.is (fails _ c.is_state.ensures c.if-is_state.false)

pub returns-in-TransitionOf : goal.returns-in-TransitionOf
unfolding owner_fits
returns-in-TransitionOf c = rw (c.in-TransitionOf.is, c.transition_count.ensures)

pub returns-in-EntryOf : goal.returns-in-EntryOf
unfolding owner_fits
returns-in-EntryOf c = elim c.in-EntryOf.is [ inl e ↦ rw e c.is_state-in-EntryOf.ensures | inr e ↦ rw e c.is_state-in-EntryOf.ensures ]
