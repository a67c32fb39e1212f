-- `reader::order::placed`: whether a kind stands in its place. Assumes nothing.
use mathlib.Core.Path.{ap}
use Rattle.chart_rows.specs.Kinds.{as_record}
use Rattle.reader.proofs.OrderLaws.{in_order_s, in_order_v, in_order_e, in_order_t, in_order_a}
use Rattle.reader.proofs.order.placed.Goals as goal

pub returns-in-State : goal.returns-in-State
returns-in-State c = in_order_s _ _ (ap as_record c.in-State.is)

pub returns-in-Variable : goal.returns-in-Variable
returns-in-Variable c = in_order_v _ _ (ap as_record c.in-Variable.is)

pub returns-in-Events : goal.returns-in-Events
returns-in-Events c = in_order_e _ _ (ap as_record c.in-Events.is)

pub returns-in-Transition : goal.returns-in-Transition
returns-in-Transition c = in_order_t _ _ (ap as_record c.in-Transition.is) c.requires.events

pub returns-in-Action : goal.returns-in-Action
returns-in-Action c = in_order_a _ _ (ap as_record c.in-Action.is)
