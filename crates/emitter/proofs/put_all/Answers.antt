-- `put_all` puts number after number. Assumes nothing.
use borrow.Author.Rules.{rules}
use lib.IntN.{pos}
use lib.ListN.{get_or}
use mir.Facts.{to_z-of_z}
use mir.Syntax.{w32}
use mir.Val.{SFits}
use native.Mathlib.Omega.{arith}
use Rattle.emitter.proofs.Laws.{next_put, all_put}
use Rattle.emitter.proofs.put_all.Goals as goal

pub loop-i-preserved : goal.loop-i-preserved
loop-i-preserved c =
    let fit : SFits w32 (get_or c.args.numbers.now c.loop-i.i (pos 0)) = search rules in
    next_put c.args.plan.now c.args.numbers.now c.args.at c.loop-i.i (omega arith) c.loop-i.invariant
    (rw (to_z-of_z fit) at c.put.ensures)

pub returns : goal.returns
returns c = all_put c.args.plan.now c.args.numbers.now c.args.at c.loop-i.i (omega arith) c.loop-i.invariant
