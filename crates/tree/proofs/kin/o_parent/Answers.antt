-- `o_parent` is the parent where that is of kind o. Assumes nothing.
use mathlib.Core.Path.{◌≡◌, sym, ◌∙◌}
use mathlib.Core.Bool.{Bool}
use Rattle.meaning.specs.Tree.{kind_of, parent_of, is_o}
use Rattle.meaning.specs.Value.{chart_of}
use Rattle.tree.proofs.Climb.{o_parent_root, o_parent_below}
use Rattle.tree.proofs.kin.o_parent.Goals.{After-is_o}
use Rattle.tree.proofs.kin.o_parent.Goals as goal

-- the test, of the parent itself
test : (c : After-is_o) {b : Bool}
    → c.is_o.result ≡ b
    → is_o (kind_of (chart_of c.args.chart.now)
    (parent_of (chart_of c.args.chart.now) c.args.s)) ≡ b
test c e = rw (c.kind_of.ensures, c.parent_of-p.ensures) at (sym c.is_o.ensures ∙ e)

pub returns-then-s-eq0 : goal.returns-then-s-eq0
returns-then-s-eq0 c = sym (o_parent_root (chart_of c.args.chart.now) c.args.s c.if-s-eq0.true)

pub returns-then-is_o : goal.returns-then-is_o
returns-then-is_o c =
    let a = c.args in
    rw (
      o_parent_below (chart_of a.chart.now) a.s c.if-s-eq0.false,
      test c.before c.if-is_o.true,
      c.parent_of-p.ensures,
    )

pub returns-else-is_o : goal.returns-else-is_o
returns-else-is_o c =
    let a = c.args in
    rw (o_parent_below (chart_of a.chart.now) a.s c.if-s-eq0.false, test c.before c.if-is_o.false)
