-- `begin` runs the start block, then null steps. Assumes nothing.
use mathlib.Core.Path.{◌≡◌}
use native.Mathlib.Omega.{arith}
use borrow.Author.Rules.{rules}
use Rattle.std.specs.Prelude.{Err}
use Rattle.plan_code.proofs.Named.{start_block}
use Rattle.machine.proofs.Starts.{begin_stop, begin_on}
use Rattle.machine.proofs.starting.begin.Goals as goal

pub run_block-requires : goal.run_block-requires
run_block-requires c = (start_block c.args.plan.now.examined, omega arith)

pub returns-in_err-next : goal.returns-in_err-next
returns-in_err-next c =
    let q : c.from_residual.result ≡ Err c.in_err-next.field-0.0 = search rules in
    rw q (begin_stop c.args.plan.now.numbers.now c.args.plan.now.examined c.in_err-next.ensures)

pub settle-requires : goal.settle-requires
settle-requires c = c.in_ok-next.ensures.fits

pub returns : goal.returns
returns c = begin_on c.args.plan.now.numbers.now c.args.plan.now.examined c.in_ok-next.ensures c.settle.ensures
