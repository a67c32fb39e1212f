-- Where the form of a record begins. Assumes nothing.
use native.Mathlib.Omega.{arith}
use Rattle.forms.proofs.TableLaws.{root_form, state_form, variable_form, events_form, transition_form, action_form}
use Rattle.forms.proofs.begins.Goals as goal

pub returns-then-n-eq0 : goal.returns-then-n-eq0
returns-then-n-eq0 c = (rw (c.in-State.is, c.if-n-eq0.true) root_form, omega arith)

pub returns-else-n-eq0 : goal.returns-else-n-eq0
returns-else-n-eq0 c = (rw c.in-State.is (state_form _ c.if-n-eq0.false), omega arith)

pub returns-in-Variable : goal.returns-in-Variable
returns-in-Variable c = (rw c.in-Variable.is (variable_form c.args.n), omega arith)

pub returns-in-Events : goal.returns-in-Events
returns-in-Events c = (rw c.in-Events.is (events_form c.args.n), omega arith)

pub returns-in-Transition : goal.returns-in-Transition
returns-in-Transition c = (rw c.in-Transition.is (transition_form c.args.n), omega arith)

pub returns-in-Action : goal.returns-in-Action
returns-in-Action c = (rw c.in-Action.is (action_form c.args.n), omega arith)
