-- `rule_3` counts once, then tries each state. Assumes nothing.
use mathlib.Core.Path.{◌∙◌}
use native.Mathlib.Omega.{arith}
use lib.ListN.{length}
use Rattle.meaning.specs.Tree.{all_states}
use Rattle.meaning.specs.Rules.{rule_3}
use Rattle.meaning.specs.Value.{chart_of}
use Rattle.chart_rows.proofs.Rows.{states_most}
use Rattle.rules.proofs.Tests.{refuted, held}
use Rattle.rules.proofs.Every.{all_start, all_stop, all_next, all_done}
use Rattle.rules.proofs.Children.{counted_fits}
use Rattle.rules.proofs.states.rule_3.Invariants.{tried}
use Rattle.rules.proofs.states.rule_3.Goals as goal

pub loop-s-init : goal.loop-s-init
unfolding rule_3 all_states
loop-s-init c = all_start (tried (chart_of c.args.chart.now))
    (length (chart_of c.args.chart.now).states)

pub offset_bounds-families-s : goal.offset_bounds-families-s
offset_bounds-families-s c = omega (arith, states_most c.args.chart.now)

pub bounds-families-s : goal.bounds-families-s
bounds-families-s c = omega (arith, states_most c.args.chart.now)

pub returns-then-not-children_fit : goal.returns-then-not-children_fit
returns-then-not-children_fit c =
    let k = chart_of c.args.chart.now in
    let w = c.loop-s in
    let f = c.count_children-families in
    all_stop (tried k) (length k.states) w.s (omega arith)
    (refuted (c.children_fit.ensures
    ∙ rw c.kind_of.ensures (counted_fits k f.result w.s f.ensures
    (omega (arith, states_most c.args.chart.now))))
    c.if-not-children_fit.true-raw) w.invariant

pub loop-s-preserved : goal.loop-s-preserved
loop-s-preserved c =
    let k = chart_of c.args.chart.now in
    let w = c.loop-s in
    let f = c.count_children-families in
    all_next (tried k) (length k.states) w.s (omega arith)
    (held (c.children_fit.ensures
    ∙ rw c.kind_of.ensures (counted_fits k f.result w.s f.ensures
    (omega (arith, states_most c.args.chart.now))))
    c.if-not-children_fit.false-raw) w.invariant

pub returns : goal.returns
returns c =
    let w = c.loop-s in
    let k = chart_of c.args.chart.now in
    all_done (tried k) (length k.states) w.s (omega arith) w.invariant
