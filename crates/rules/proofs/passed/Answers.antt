-- `passed` names the rule that does not hold. Assumes nothing.
use Rattle.meaning.specs.Rules.{first_failing, verdict}
use Rattle.rules.proofs.passed.Goals as goal

pub returns-then-holds : goal.returns-then-holds
unfolding verdict first_failing
returns-then-holds c = rw c.if-holds.true

pub returns-else-holds : goal.returns-else-holds
unfolding verdict first_failing
returns-else-holds c = rw c.if-holds.false
