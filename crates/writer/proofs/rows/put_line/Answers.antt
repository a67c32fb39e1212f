-- `put_line`: the letter, the fields, LF. Assumes nothing.
use Rattle.writer.proofs.LineLaws.{line_put}
use Rattle.writer.proofs.rows.put_line.Goals as goal

pub returns-clause-written : goal.returns-clause-written
returns-clause-written c = line_put _ _ _ _ _ _ _ _ _ c.letter.ensures c.put.ensures.written c.put_fields.ensures.written c.put-2.ensures.written
