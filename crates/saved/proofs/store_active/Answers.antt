-- `store_active` writes mark by mark. Assumes nothing.
use Rattle.std.proofs.Common.{rules, ◌∙◌, map, arith}
use lib.Seq.{paste-zero}
use Rattle.sizes.specs.Sizes.{STATES}
use Rattle.numbers.proofs.Laws.{back32}
use Rattle.promises.specs.Saved.{mark}
use Rattle.saved.proofs.Pasted.{paste_done}
use Rattle.saved.proofs.Storing.{mark_more}
use Rattle.saved.proofs.store_active.Goals as goal

pub loop-i-init : goal.loop-i-init
loop-i-init c = paste-zero c.args.numbers.now 1 (map mark c.args.active)

pub loop-i-preserved : goal.loop-i-preserved
loop-i-preserved c =
    let l = c.loop-i in
    mark_more c.args.numbers.now l.numbers c.args.active l.i _ c.requires (search rules) c.loop-i-test.true l.invariant
    (back32 _ c.mark.type_inv ∙ c.mark.ensures)

pub returns : goal.returns
returns c =
    paste_done c.args.numbers.now (map mark c.args.active) c.loop-i.numbers 1 c.loop-i.i STATES c.loop-i.invariant (omega arith)
