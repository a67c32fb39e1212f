-- `examine` answers 0 for a well-formed plan, else 5. Assumes nothing.
use mathlib.Core.Path.{sym, ◌∙◌}
use Rattle.examiner.proofs.Verdicts.{answer_done, answer_malformed}
use Rattle.examiner.proofs.examine.Goals as goal

pub returns-then-well_formed : goal.returns-then-well_formed
returns-then-well_formed c = answer_done c.args.plan.now (sym c.well_formed-2.ensures ∙ c.if-well_formed.true)

pub returns : goal.returns
returns c = answer_malformed c.args.plan.now (sym c.well_formed-2.ensures ∙ c.if-well_formed.false)
