-- `started` starts a widget and prints what the start gives. Assumes nothing.
use mathlib.Core.Path.{◌≡◌, ◌∙◌}
use lib.ListN.{length}
use Rattle.session.proofs.Steps.{start_takes}
use borrow.Author.Rules.{rules}
use Rattle.session.proofs.started.Goals as goal

pub returns : goal.returns
returns c =
    let k : length c.start_checked-called.new.trace ≡ length c.args.trace.now = search rules in
    rw c.unstarted.ensures.result at
    (start_takes _ _ _ _ _ _ c.requires.0 _ _ c.requires.1 (k ∙ c.requires.1) _
    c.report-place.ensures c.start_checked-called.ensures)
