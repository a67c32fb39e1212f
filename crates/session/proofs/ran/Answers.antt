-- `ran` runs the front event and prints what the run gives. Assumes nothing.
use mathlib.Core.Path.{◌≡◌, ◌∙◌}
use lib.ListN.{length}
use Rattle.session.proofs.Steps.{run_takes}
use borrow.Author.Rules.{rules}
use Rattle.session.proofs.ran.Goals as goal

pub returns : goal.returns
returns c =
    let k : length c.run_checked-called.new.trace ≡ length c.args.trace.now = search rules in
    run_takes _ _ _ _ _ _ c.requires.0 _ _ c.requires.1 (k ∙ c.requires.1) _
    c.report-place.ensures c.run_checked-called.ensures
