-- `finish` is the end of the input. Assumes nothing.
use mathlib.Core.Path.{sym, ◌∙◌}
use Rattle.meaning.specs.Value.{chart_of}
use Rattle.meaning.specs.Program.{do_line}
use Rattle.session.proofs.Steps.{end_begun, end_none}
use Rattle.session.proofs.finish.Goals as goal

pub returns-then-began : goal.returns-then-began
returns-then-began c =
    end_begun (do_line (chart_of c.args.chart.now)) _ _ _ _ _ _
    c.line_ends.ensures
    (sym c.began.ensures ∙ c.if-began.true)

pub returns : goal.returns
returns c = end_none _ _ _ _ _ (sym c.began.ensures ∙ c.if-began.false)
