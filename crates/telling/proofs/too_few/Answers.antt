-- `too_few` hands on a refusal, else it is 6. Assumes nothing.
use Rattle.telling.proofs.Told.{too_few_6, too_few_first}
use Rattle.telling.proofs.too_few.Goals as goal

pub returns-then-verdict-ne0 : goal.returns-then-verdict-ne0
returns-then-verdict-ne0 c = too_few_first _ c.if-verdict-ne0.true

pub returns : goal.returns
returns c = too_few_6 _ c.if-verdict-ne0.false
