-- `begin` reads the chart; a refused one prints its answer, and one that was read passes the rules, so that the widget may start.
-- Assumes nothing.
use mathlib.Core.Path.{◌≡◌, ◌∙◌}
use lib.ListN.{length}
use Rattle.session.proofs.Opening.{open_refused, open_started, read_ruled}
use borrow.Author.Rules.{rules}
use Rattle.session.proofs.begin.Goals as goal

pub returns-then-answer-ne0 : goal.returns-then-answer-ne0
returns-then-answer-ne0 c =
    open_refused _ _ _ _ _ _ _ (rw c.requires.0 at c.read-answer.ensures.result) c.if-answer-ne0.true
    (rw c.unstarted.ensures.result at c.refusal.ensures)

pub started-requires : goal.started-requires
started-requires c =
    let e = rw c.requires.0 at c.read-answer.ensures.result in
    let m = rw c.requires.0 at c.read-answer.ensures.lent in
    let j : length c.read-answer.new.chart ≡ length c.args.chart.now = search rules in
    (read_ruled _ _ _ e m (j ∙ c.requires.0) c.if-answer-ne0.false, c.requires.1)

pub returns : goal.returns
returns c =
    let e = rw c.requires.0 at c.read-answer.ensures.result in
    let m = rw c.requires.0 at c.read-answer.ensures.lent in
    let j : length c.read-answer.new.chart ≡ length c.args.chart.now = search rules in
    open_started _ _ _ e m (j ∙ c.requires.0) c.if-answer-ne0.false _ _ _ _ c.started.ensures
