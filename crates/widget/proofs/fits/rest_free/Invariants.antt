use mathlib.Core.Path.{◌≡◌}
use mathlib.Core.Bool.{◌&&◌}
use lib.ListN.{drop}
use Rattle.sizes.specs.Sizes.{QUEUE}
use Rattle.meaning.specs.Lists.{every}
use Rattle.meaning.specs.Foreign.{is_none}
use Rattle.widget.proofs.fits.rest_free.Given as goal

abbrev pub invariant-loop-i : goal.invariant-loop-i
invariant-loop-i l = l.fit && every is_none (drop l.i l.queue.items) ≡ every is_none (drop l.queue.len l.queue.items)
