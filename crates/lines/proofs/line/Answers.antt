-- `lines::line` meets its contract: each way out is a law of the files beside. Assumes nothing.
use Rattle.std.proofs.lemmas.Result.{err_from_is_err_and}
use Rattle.lines.proofs.LineLaws.{letter_alone, line_not, line_took}
use Rattle.lines.proofs.line.Goals as goal

pub returns-in_default : goal.returns-in_default
returns-in_default c = letter_alone _ _ _ _ _ _ c.cut_at.ensures _ _ c.in_default.is

pub returns-in_err-line_by : goal.returns-in_err-line_by
returns-in_err-line_by c =
    let p = err_from_is_err_and c.from_residual.result c.from_residual.ensures.1 in
    rw (p.1, p.2) (line_not _ _ _ _ _ _ c.cut_at.ensures _ _ _ c.in-Some.is _ _ c.line_by.ensures _ c.in_err-line_by.was)

pub returns : goal.returns
returns c =
    line_took _ _ _ _ _ _ c.cut_at.ensures _ _ _ c.in-Some.is _ _ c.line_by.ensures _ _ c.in_ok-line_by.was c.room.ensures
