-- `collect` feeds the line each byte up to LF. Assumes nothing.
use Rattle.console.proofs.Stretch.{collects_none, collects_more, collects_all, collects_line}
use Rattle.console.proofs.scan.collect.Goals as goal

pub loop-i-init : goal.loop-i-init
loop-i-init c = collects_none _ _ _ c.requires

pub loop-i-preserved : goal.loop-i-preserved
loop-i-preserved c =
    collects_more _ _ _ _ _ c.loop-i.invariant _ c.loop-i-test.true c.if-part-i-eq-LF.false c.feed-line.ensures

pub returns : goal.returns
returns c = collects_all _ _ _ _ _ c.loop-i.invariant c.loop-i-test.false

pub returns-then-part-i-eq-LF : goal.returns-then-part-i-eq-LF
returns-then-part-i-eq-LF c = collects_line _ _ _ _ _ c.loop-i.invariant c.if-part-i-eq-LF.true
