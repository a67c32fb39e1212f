-- `copy` writes number by number. Assumes nothing.
use mathlib.Core.Path.{sym, ◌∙◌}
use borrow.Author.Rules.{rules}
use native.Mathlib.Omega.{arith}
use Prim.Native.Nat.{◌+◌, ◌<◌, ◌^◌}
use lib.ListN.{drop, get_or, length-drop}
use lib.Signed.{mag}
use lib.Seq.{paste-zero, get_or-drop}
use lib.IntN.{pos}
use Rattle.numbers.proofs.Laws.{back32}
use Rattle.saved.proofs.Pasted.{paste_more, paste_done}
use Rattle.saved.proofs.copy.Goals as goal

pub loop-i-init : goal.loop-i-init
loop-i-init c = paste-zero c.args.to.now c.args.place (drop c.args.at c.args.from.now)

pub loop-i-preserved : goal.loop-i-preserved
loop-i-preserved c =
    let a = c.args in
    let l = c.loop-i in
    let f : mag (get_or a.from.now (a.at + l.i) (pos 0)) < 2 ^ 31 = search rules in
    paste_more a.to.now (drop a.at a.from.now) l.to a.place l.i _ (pos 0) l.invariant
    (back32 _ f ∙ sym (get_or-drop a.at a.from.now l.i (pos 0))) (omega arith)
    (rw length-drop (omega arith))

pub returns : goal.returns
returns c =
    let a = c.args in
    let l = c.loop-i in
    paste_done a.to.now (drop a.at a.from.now) l.to a.place l.i a.count l.invariant (omega arith)
