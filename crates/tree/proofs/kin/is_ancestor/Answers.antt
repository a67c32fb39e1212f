-- `is_ancestor` climbs: what is left of the way up says as much as the whole. Assumes nothing.
use mathlib.Core.Path.{◌≡◌, sym, ◌∙◌}
use Prim.Native.Nat.{◌+◌, ◌-◌}
use native.Mathlib.Omega.{arith}
use Rattle.meaning.specs.Tree.{ancestors}
use Rattle.meaning.specs.Value.{chart_of}
use Rattle.tree.proofs.Climb.{climbed_root, climbed_out, climbed_here, climbed_on}
use Rattle.tree.proofs.kin.is_ancestor.Goals as goal

pub loop-step-init : goal.loop-step-init
unfolding ancestors
loop-step-init c = let z : c.args.d - 0 ≡ c.args.d = omega arith in rw z

pub returns-then-at-eq0 : goal.returns-then-at-eq0
returns-then-at-eq0 c =
    let a = c.args in
    let w = c.loop-step in
    sym (climbed_root (chart_of a.chart.now) a.a (a.d - w._step) w.at c.if-at-eq0.true) ∙ w.invariant

pub returns-then-a-at : goal.returns-then-a-at
returns-then-a-at c =
    let a = c.args in
    let w = c.loop-step in
    sym (climbed_here (chart_of a.chart.now) a.a
    (a.d - w._step) w.at (omega arith) c.if-at-eq0.false (c.if-a-at.true ∙ c.parent_of-at.ensures)) ∙ w.invariant

pub loop-step-preserved : goal.loop-step-preserved
loop-step-preserved c =
    let a = c.args in
    let w = c.loop-step in
    let z : a.d - (w._step + 1) ≡ a.d - w._step - 1 = omega arith in
    rw (z, c.parent_of-at.ensures) (climbed_on (chart_of a.chart.now) a.a (a.d - w._step)
    w.at (omega arith) c.if-at-eq0.false (λ e. c.if-a-at.false (e ∙ sym c.parent_of-at.ensures))) ∙ w.invariant

pub returns : goal.returns
returns c =
    let a = c.args in
    let w = c.loop-step in
    sym (climbed_out (chart_of a.chart.now) a.a (a.d - w._step) w.at (omega arith)) ∙ w.invariant
