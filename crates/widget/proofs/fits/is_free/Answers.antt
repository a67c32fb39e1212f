-- `is_free` tests that a place holds 0 with 0. Assumes nothing.
use Rattle.std.proofs.Common.{lit<}
use borrow.Author.Rules.{rules}
use lib.IntN.{pos}
use mir.Syntax.{w32}
use mir.Val.{SFits}
use Rattle.numbers.proofs.Laws.{test_bits}
use Rattle.meaning.specs.Foreign.{is_none}
use Rattle.widget.proofs.fits.is_free.Goals as goal

pub returns : goal.returns
unfolding is_none
returns c =
    let fe : SFits w32 c.args.item.event = search rules in
    let fa : SFits w32 c.args.item.arg = search rules in
    rw (← test_bits c.args.item.event (pos 0) fe.sfits (lit< tt), ← test_bits c.args.item.arg (pos 0) fa.sfits (lit< tt))
