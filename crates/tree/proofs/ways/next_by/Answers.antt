-- `next_by` goes by the course. Assumes nothing.
use mathlib.Core.Path.{refl}
use Rattle.meaning.specs.Entry.{by_defaults}
use Rattle.tree.proofs.Aiming.{course_as}
use Rattle.tree.proofs.ways.next_by.Goals as goal

pub returns-in-Defaults : goal.returns-in-Defaults
unfolding by_defaults
returns-in-Defaults c = course_as _ _ _ c.in-Defaults.is refl

pub returns-in-Slots : goal.returns-in-Slots
returns-in-Slots c = course_as _ _ _ c.in-Slots.is c.stored.ensures

pub returns-in-Towards : goal.returns-in-Towards
returns-in-Towards c = course_as _ _ _ c.in-Towards.is c.next_of.ensures
