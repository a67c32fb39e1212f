-- `marked` tests mark by mark. Assumes nothing.
use Rattle.std.proofs.Common.{rules, refl, ◌<◌, ◌^◌, ◌≡◌, get_or, pos, take, arith}
use lib.Signed.{mag}
use lib.Seq.{length-take-le, get_or-take}
use Rattle.numbers.proofs.Laws.{back32}
use Rattle.meaning.specs.Lists.{every}
use Rattle.promises.specs.Saved.{MARKS}
use Rattle.saved.proofs.Loading.{marked_more}
use Rattle.saved.proofs.marked.Goals as goal

pub loop-n-init : goal.loop-n-init
unfolding every
loop-n-init c = refl

pub loop-n-preserved : goal.loop-n-preserved
loop-n-preserved c =
    let ns = c.args.numbers.now in
    let i = c.loop-n.n-index in
    let k = length-take-le MARKS ns c.requires in
    let f : mag (get_or (take MARKS ns) i (pos 0)) < 2 ^ 31 = search rules in
    marked_more ns i (omega arith) c.loop-n.invariant
    (rw (back32 _ f, get_or-take MARKS ns i (pos 0) (omega arith)) at c.between-fit.ensures)

pub returns : goal.returns
returns c =
    let k = length-take-le MARKS c.args.numbers.now c.requires in
    let e : c.loop-n.n-index ≡ MARKS = omega arith in
    rw e at c.loop-n.invariant
