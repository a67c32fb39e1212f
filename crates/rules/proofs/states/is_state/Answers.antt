-- `is_state` compares with the count. Assumes nothing.
use Rattle.rules.proofs.states.is_state.Goals as goal

pub returns : goal.returns
returns c = rw c.state_count.ensures
