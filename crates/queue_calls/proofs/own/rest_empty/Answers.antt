-- `rest_empty` looks at every slot from `end` on. Assumes nothing.
use native.Mathlib.Omega.{arith}
use borrow.Author.Rules.{rules}
use mir.Syntax.{w32}
use mir.Val.{SFits}
use lib.IntN.{pos, negsuc}
use lib.ListN.{get_or}
use Rattle.numbers.specs.Equal.{eq_z}
use Rattle.widget.proofs.Every.{every_and, every_all}
use Rattle.queue_calls.proofs.Values.{test_turned}
use Rattle.queue_calls.proofs.own.rest_empty.Goals as goal

pub loop-s-preserved : goal.loop-s-preserved
loop-s-preserved c =
    let a = c.args in
    let fx : SFits w32 (get_or a.slots.now c.loop-s.s (pos 0)) = search rules in
    rw (test_turned (get_or a.slots.now c.loop-s.s (pos 0)) (negsuc 0) fx.sfits (omega arith))
    (every_and (eq_z (negsuc 0)) a.slots.now c.loop-s.s c.loop-s.fit (pos 0) c.loop-s.invariant
    (omega (arith, c.requires, c.loop-s-test.true)))

pub returns : goal.returns
returns c =
    every_all (eq_z (negsuc 0)) c.args.slots.now c.loop-s.s c.loop-s.invariant
    (omega (arith, c.requires, c.loop-s-test.false))
