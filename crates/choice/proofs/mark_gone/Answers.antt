-- `mark_gone` marks the states of a span one after the other. Assumes nothing.
use mathlib.Core.Path.{refl}
use native.Mathlib.Omega.{arith}
use Rattle.choice.proofs.Meets.{goes_none, goes_more, goes_end}
use Rattle.choice.proofs.mark_gone.Goals as goal

pub loop-x-init : goal.loop-x-init
loop-x-init c = (goes_none _ _ refl, omega arith, omega (arith, c.requires.0))

pub bounds-gone-x : goal.bounds-gone-x
bounds-gone-x c = omega (arith, c.requires.1)

pub loop-x-preserved : goal.loop-x-preserved
loop-x-preserved c =
    let w = c.loop-x.invariant in
    let p = c.requires in
    (goes_more w.0 (omega (arith, p.1, p.2, w.0.long)) w.1, omega arith, omega arith)

pub returns : goal.returns
returns c =
    let w = c.loop-x in
    let r = c.args.span in
    goes_end r w.invariant.0 (omega (arith, w.invariant.2))
