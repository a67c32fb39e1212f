-- `Turns::more`: one more of the kind. Assumes nothing.
use mathlib.Core.Path.{refl}
use Rattle.reader.specs.Order.{turns_after}
use Rattle.reader.proofs.order.Turns.more.Goals as goal

pub returns-in-State : goal.returns-in-State
unfolding turns_after
returns-in-State c = rw c.in-State.is refl

pub returns-in-Variable : goal.returns-in-Variable
unfolding turns_after
returns-in-Variable c = rw c.in-Variable.is refl

pub returns-in-Events : goal.returns-in-Events
unfolding turns_after
returns-in-Events c = rw c.in-Events.is refl

pub returns-in-Transition : goal.returns-in-Transition
unfolding turns_after
returns-in-Transition c = rw c.in-Transition.is refl

pub returns-in-Action : goal.returns-in-Action
unfolding turns_after
returns-in-Action c = rw c.in-Action.is refl
