-- `rest_free` looks at every place of the queue that is not in use. Assumes nothing.
use mathlib.Core.Path.{◌≡◌, ap, ◌∙◌}
use native.Mathlib.Omega.{arith}
use borrow.Author.Rules.{rules}
use Prim.Native.Nat.{◌+◌}
use mathlib.Core.Bool.{◌&&◌}
use lib.ListN.{drop, length}
use Rattle.sizes.specs.Sizes.{QUEUE}
use Rattle.queue.specs.Queue.{no_item}
use Rattle.meaning.specs.Lists.{every}
use Rattle.meaning.specs.Foreign.{is_none}
use Rattle.widget.proofs.Every.{every_and, every_all}
use Rattle.widget.proofs.fits.rest_free.Goals as goal

pub loop-i-preserved : goal.loop-i-preserved
loop-i-preserved c =
    let long : length c.args.queue.items ≡ QUEUE = search rules in
    ap (λ b. (c.loop-i.fit && b) && every is_none (drop (c.loop-i.i + 1) c.args.queue.items)) c.is_free-fit.ensures
    ∙ every_and is_none c.args.queue.items
    c.loop-i.i c.loop-i.fit no_item c.loop-i.invariant (omega arith)

pub returns : goal.returns
returns c =
    let long : length c.args.queue.items ≡ QUEUE = search rules in
    every_all is_none c.args.queue.items c.loop-i.i c.loop-i.invariant (omega arith)
