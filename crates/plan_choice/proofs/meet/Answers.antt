-- `meet` compares the spans of two heads where they stand. Assumes nothing.
use mathlib.Core.Path.{◌∙◌}
use native.Mathlib.Omega.{arith}
use borrow.Author.Tests.{lt-leb}
use Rattle.plan_choice.proofs.Tests.{first_is, last_is, apart, meeting}
use Rattle.plan_choice.proofs.meet.Goals as goal

pub known-requires : goal.known-requires
known-requires c =
    (omega (arith, c.requires.0), omega (arith, c.requires.2.0, first_is c.args.plan.now c.args.at))

pub known-requires-2 : goal.known-requires-2
known-requires-2 c = (omega (arith, c.requires.1), omega (arith, c.requires.3.1, last_is c.args.plan.now c.args.other))

pub known-requires-then-known : goal.known-requires-then-known
known-requires-then-known c =
    (omega (arith, c.requires.1), omega (arith, c.requires.3.0, first_is c.args.plan.now c.args.other))

pub known-requires-then-known-2 : goal.known-requires-then-known-2
known-requires-then-known-2 c =
    (omega (arith, c.requires.0), omega (arith, c.requires.2.1, last_is c.args.plan.now c.args.at))

pub returns-then-known : goal.returns-then-known
returns-then-known c =
    let a = c.args in
    meeting a.plan.now a.at a.other c.known-2.ensures
    c.known.ensures c.if-known.true c.known-then-known.ensures
    c.known-then-known-2.ensures

pub returns-else-known : goal.returns-else-known
returns-else-known c =
    let a = c.args in
    lt-leb c.known.result c.known-2.result (omega arith)
    ∙ apart a.plan.now a.at a.other c.known-2.ensures c.known.ensures (omega arith)
