-- `held` reads place by place what the numbers say. Assumes nothing.
use Rattle.std.proofs.Common.{◌+◌, ◌*◌, ap, ◌∙◌, rules, arith, get_or, pos}
use mir.Syntax.{w32}
use mir.Val.{SFits}
use mir.Facts.{to_z-of_z}
use Rattle.numbers.specs.Reference.{ref}
use Rattle.queue.proofs.Numbers.{held_more, held_all}
use Rattle.queue.proofs.lent.held.Goals as goal

pub loop-i-preserved : goal.loop-i-preserved
loop-i-preserved c =
    let ns = c.args.numbers.now in
    let at = 2 * c.loop-i.i + 1 in
    let e : SFits w32 (get_or ns at (pos 0)) = search rules in
    let a : SFits w32 (get_or ns (at + 1) (pos 0)) = search rules in
    held_more ns c.requires _ _ _ _ c.loop-i-test.true c.loop-i.invariant (to_z-of_z e) (to_z-of_z a)

pub returns : goal.returns
returns c =
    let ns = c.args.numbers.now in
    let n : SFits w32 (get_or ns 0 (pos 0)) = search rules in
    held_all ns c.requires _ c.loop-i.i _ (omega arith) c.loop-i.invariant
    (c.reference.ensures ∙ ap ref (to_z-of_z n))
