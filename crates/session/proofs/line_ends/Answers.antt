-- `line_ends` is the turn of the line, and the next line has not begun. Assumes nothing.
use Rattle.meaning.specs.Value.{chart_of}
use Rattle.meaning.specs.Program.{do_line}
use Rattle.session.proofs.Steps.{line_takes}
use Rattle.session.proofs.line_ends.Goals as goal

pub returns : goal.returns
returns c =
    line_takes (do_line (chart_of c.args.chart.now)) _ _ _ _ _ _ _ _ c.line.ensures c.empty.ensures
    c.turn-ended.ensures
