-- `lend` writes the length and then place by place. Assumes nothing.
use mathlib.Core.Path.{◌≡◌, ◌∙◌}
use native.Mathlib.Omega.{arith}
use borrow.Author.Rules.{rules}
use lib.ListN.{length, get_or}
use Rattle.queue.specs.Queue.{no_item}
use mir.Syntax.{w32}
use mir.Val.{SFits}
use mir.Facts.{to_z-of_z}
use Rattle.sizes.specs.Sizes.{QUEUE}
use Rattle.numbers.proofs.Laws.{back32}
use Rattle.queue.proofs.Numbers.{lend_begin, lend_more, lend_all}
use Rattle.queue.proofs.lent.lend.Goals as goal

pub loop-i-init : goal.loop-i-init
loop-i-init c = lend_begin _ _ (back32 _ c.told_length.type_inv ∙ c.told_length.ensures)

pub loop-i-preserved : goal.loop-i-preserved
loop-i-preserved c =
    let long : length c.args.queue.items ≡ QUEUE = search rules in
    let l = c.loop-i in
    let fe : SFits w32 (get_or c.args.queue.items l.i no_item).event = search rules in
    let fa : SFits w32 (get_or c.args.queue.items l.i no_item).arg = search rules in
    lend_more _ _ _ _ _ long c.loop-i-test.true l.invariant (to_z-of_z fe) (to_z-of_z fa)

pub returns : goal.returns
returns c =
    let long : length c.args.queue.items ≡ QUEUE = search rules in
    lend_all _ _ c.loop-i.i long (omega arith) c.loop-i.invariant
