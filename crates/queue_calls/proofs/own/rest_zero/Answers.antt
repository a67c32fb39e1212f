-- `rest_zero` looks at every variable from `end` on. Assumes nothing.
use native.Mathlib.Omega.{arith}
use borrow.Author.Rules.{rules}
use mir.Syntax.{w32}
use mir.Val.{SFits}
use lib.IntN.{pos}
use lib.ListN.{get_or}
use Rattle.numbers.specs.Equal.{eq_z}
use Rattle.widget.proofs.Every.{every_and, every_all}
use Rattle.queue_calls.proofs.Values.{test_turned}
use Rattle.queue_calls.proofs.own.rest_zero.Goals as goal

pub loop-v-preserved : goal.loop-v-preserved
loop-v-preserved c =
    let a = c.args in
    let fx : SFits w32 (get_or a.vars.now c.loop-v.v (pos 0)) = search rules in
    rw (test_turned (get_or a.vars.now c.loop-v.v (pos 0)) (pos 0) fx.sfits (omega arith))
    (every_and (eq_z (pos 0)) a.vars.now c.loop-v.v c.loop-v.fit (pos 0) c.loop-v.invariant
    (omega (arith, c.requires, c.loop-v-test.true)))

pub returns : goal.returns
returns c =
    every_all (eq_z (pos 0)) c.args.vars.now c.loop-v.v c.loop-v.invariant
    (omega (arith, c.requires, c.loop-v-test.false))
