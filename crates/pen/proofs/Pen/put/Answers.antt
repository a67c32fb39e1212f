-- `put`: with room the byte is stored, without it the place lies past the length. Assumes nothing.
use Rattle.pen.proofs.Laws.{put_in, put_out}
use Rattle.pen.proofs.Pen.put.Goals as goal

pub returns-then-self-clause-written : goal.returns-then-self-clause-written
returns-then-self-clause-written c = put_in _ _ _ c.if-self.true

pub returns-else-self-clause-written : goal.returns-else-self-clause-written
returns-else-self-clause-written c = put_out _ _ _ c.if-self.false
