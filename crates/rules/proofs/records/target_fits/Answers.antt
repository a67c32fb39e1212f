-- `target_fits` goes by cases. Assumes nothing.
use mathlib.Core.Path.{refl, ap}
use mathlib.Core.Bool.{not}
use borrow.Author.Tests.{eq-eqb, ne_eqb}
use Rattle.rules.proofs.Tests.{on, both, fails}
use Rattle.meaning.specs.Rules.{target_fits}
use Rattle.rules.proofs.records.target_fits.Goals as goal

pub returns-then-t-ne0 : goal.returns-then-t-ne0
unfolding target_fits
returns-then-t-ne0 c = rw c.in-To.is
    (both c.is_state.ensures c.if-is_state.true (on (ap not (ne_eqb c.in-To.t 0 c.if-t-ne0.true)) refl))

pub returns-else-t-ne0 : goal.returns-else-t-ne0
unfolding target_fits
returns-else-t-ne0 c = rw c.in-To.is
    (both c.is_state.ensures c.if-is_state.true (fails _ refl (ap not (eq-eqb c.in-To.t 0 c.if-t-ne0.false))))

pub returns-else-is_state : goal.returns-else-is_state
unfolding target_fits
returns-else-is_state c = rw c.in-To.is (fails _ c.is_state.ensures c.if-is_state.false)

pub returns-then-is_o : goal.returns-then-is_o
unfolding target_fits
returns-then-is_o c = rw c.in-History.is
    (both c.is_state-in-History.ensures c.if-is_state-2.true (on (ap not (ne_eqb c.in-History.b 0 c.if-b-ne0.true))
    (both (rw c.kind_of.ensures at c.is_o.ensures) c.if-is_o.true refl)))

pub returns-else-is_o : goal.returns-else-is_o
unfolding target_fits
returns-else-is_o c = rw c.in-History.is
    (both c.is_state-in-History.ensures c.if-is_state-2.true (on (ap not (ne_eqb c.in-History.b 0 c.if-b-ne0.true))
    (fails _ (rw c.kind_of.ensures at c.is_o.ensures) c.if-is_o.false)))

pub returns-else-b-ne0 : goal.returns-else-b-ne0
unfolding target_fits
returns-else-b-ne0 c = rw c.in-History.is
    (both c.is_state-in-History.ensures c.if-is_state-2.true (fails _ refl (ap not (eq-eqb c.in-History.b 0 c.if-b-ne0.false))))

pub returns-else-is_state-2 : goal.returns-else-is_state-2
unfolding target_fits
returns-else-is_state-2 c = rw c.in-History.is (fails _ c.is_state-in-History.ensures c.if-is_state-2.false)

pub returns-in-InPlace : goal.returns-in-InPlace
unfolding target_fits
returns-in-InPlace c = rw c.in-InPlace.is
