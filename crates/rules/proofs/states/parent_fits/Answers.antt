-- `parent_fits` of the root, of a state whose parent comes just before it, and of one whose parent is an ancestor of that. Assumes nothing.
use mathlib.Core.Path.{sym, ◌∙◌}
use borrow.Author.Tests.{eq-eqb}
use Rattle.meaning.specs.Value.{chart_of}
use Rattle.rules.proofs.Children.{parent_root, parent_last, parent_above}
use Rattle.rules.proofs.states.parent_fits.Goals as goal

pub returns-then-n-eq0 : goal.returns-then-n-eq0
returns-then-n-eq0 c = parent_root (chart_of c.args.chart.now) c.args.n c.if-n-eq0.true

pub returns-then-p-last : goal.returns-then-p-last
returns-then-p-last c =
    let a = c.args in
    eq-eqb _ _ c.if-p-last.true
    ∙ parent_last (chart_of a.chart.now) a.n c.if-n-eq0.false (sym c.parent_of-p.ensures ∙ c.if-p-last.true)

pub returns-else-p-last : goal.returns-else-p-last
returns-else-p-last c =
    let a = c.args in
    let p = c.parent_of-p.ensures in
    parent_above (chart_of a.chart.now) a.n
    c.if-n-eq0.false (λ e. c.if-p-last.false (p ∙ e)) (rw p at c.is_ancestor.ensures)
