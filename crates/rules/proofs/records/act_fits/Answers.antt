-- `act_fits` goes by cases. Assumes nothing.
use mathlib.Core.Logic.{inl, inr}
use mathlib.Core.Path.{ap, refl, ◌∙◌}
use borrow.Author.Tests.{le-leb, lt-leb}
use lib.Dec.{leb}
use Rattle.numbers.proofs.Laws.{back32}
use Rattle.rules.proofs.Tests.{on, both, fails}
use Rattle.meaning.specs.Rules.{act_fits}
use Rattle.rules.proofs.records.act_fits.Goals as goal

pub returns-then-is_var : goal.returns-then-is_var
unfolding act_fits
returns-then-is_var c = rw c.in-SetTo.is
    (both c.is_var.ensures c.if-is_var.true (c.within_row.ensures
    ∙ rw (
      c.var_row.ensures,
      back32 c.in-SetTo.x
          c.in-SetTo.known_told-1-own.given.1.0.1,
    )))

pub returns-else-is_var : goal.returns-else-is_var
unfolding act_fits
returns-else-is_var c = rw c.in-SetTo.is (fails _ c.is_var.ensures c.if-is_var.false)

pub returns-then-e-ge1 : goal.returns-then-e-ge1
unfolding act_fits
returns-then-e-ge1 c = rw c.in-Send.is (on (le-leb 1 c.in-Send.e c.if-e-ge1.true) (ap (leb c.in-Send.e) c.event_count.ensures))

pub returns-else-e-ge1 : goal.returns-else-e-ge1
unfolding act_fits
returns-else-e-ge1 c = rw c.in-Send.is (fails _ refl (lt-leb 1 c.in-Send.e c.if-e-ge1.false))

pub returns-in-Tell : goal.returns-in-Tell
unfolding act_fits
returns-in-Tell c = rw c.in-Tell.is

pub returns-in-AddTo : goal.returns-in-AddTo
unfolding act_fits
returns-in-AddTo c = elim c.in-AddTo.is [ inl e ↦ rw e.1 c.is_var-in-AddTo.ensures | inr e ↦ rw e c.is_var-in-AddTo.ensures ]
