-- `run_session` keeps room for one more report, from the start to the end of the input. Assumes nothing.
use mathlib.Core.Path.{◌≡◌}
use native.Mathlib.Omega.{arith}
use lib.ListN.{length}
use borrow.Author.Rules.{rules}
use Rattle.trace.proofs.run_session.Goals as goal

pub print-requires : goal.print-requires
print-requires g c =
    let room = c.in_ok-read.ensures.ok in
    let w = c.finish-last.ensures.whole room in
    let k : length c.finish-last.new.out ≡ length c.read_all.new.out = search rules in
    omega (arith, room)
