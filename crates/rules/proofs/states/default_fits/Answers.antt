-- `default_fits` asks only an o state for its default. Assumes nothing.
use Rattle.meaning.specs.Tree.{kind_of}
use Rattle.meaning.specs.Value.{chart_of}
use Rattle.rules.proofs.Tests.{refuted, held, both, fails}
use Rattle.rules.proofs.Children.{default_other, default_o}
use Rattle.rules.proofs.states.default_fits.Goals as goal

pub returns-then-not-is_o : goal.returns-then-not-is_o
returns-then-not-is_o c =
    let a = c.args in
    let k = chart_of a.chart.now in
    default_other k a.s (kind_of k a.s)
    (refuted (rw c.kind_of.ensures at c.is_o.ensures) c.if-not-is_o.true-raw)

pub returns-then-is_state : goal.returns-then-is_state
returns-then-is_state c =
    let a = c.args in
    let k = chart_of a.chart.now in
    let d = c.default_child-d.ensures in
    default_o k a.s (kind_of k a.s) (held (rw c.kind_of.ensures at c.is_o.ensures) c.if-not-is_o.false-raw)
    (both (rw d at c.is_state.ensures) c.if-is_state.true (rw d at c.is_child.ensures))

pub returns-else-is_state : goal.returns-else-is_state
returns-else-is_state c =
    let a = c.args in
    let k = chart_of a.chart.now in
    default_o k a.s (kind_of k a.s) (held (rw c.kind_of.ensures at c.is_o.ensures) c.if-not-is_o.false-raw)
    (fails _ (rw c.default_child-d.ensures at c.is_state.ensures) c.if-is_state.false)
