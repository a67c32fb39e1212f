use mathlib.Core.Path.{◌≡◌}
use lib.ListN.{drop}
use Rattle.queue.specs.Queue.{waiting}
use Rattle.meaning.specs.Lists.{every}
use Rattle.meaning.specs.Foreign.{item_fits}
use Rattle.widget.proofs.fits.waiting_fit.Given as goal

abbrev pub invariant-loop-i : goal.invariant-loop-i
invariant-loop-i l =
    (l.n ≡ l.queue.len) × (every (item_fits l.events) (drop l.i (waiting l.queue)) ≡ every (item_fits l.events) (waiting l.queue))
