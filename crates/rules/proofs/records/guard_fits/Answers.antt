-- `guard_fits` goes by cases. Assumes nothing.
use Rattle.meaning.specs.Rules.{guard_fits}
use Rattle.rules.proofs.records.guard_fits.Goals as goal

pub returns-in-Always : goal.returns-in-Always
unfolding guard_fits
returns-in-Always c = rw c.in-Always.is

pub returns-in-Compares : goal.returns-in-Compares
unfolding guard_fits
returns-in-Compares c = rw c.in-Compares.is c.is_var.ensures
