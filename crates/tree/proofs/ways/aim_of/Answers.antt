-- `aim_of` goes by the form of the target. Assumes nothing.
use mathlib.Core.Path.{sym, ap}
use Rattle.tree.specs.Aims.{aim_by}
use Rattle.tree.proofs.ways.aim_of.Goals as goal

pub returns-in-To : goal.returns-in-To
returns-in-To c = ap aim_by (sym c.in-To.is)

pub returns-in-History : goal.returns-in-History
returns-in-History c = ap aim_by (sym c.in-History.is)
