use mathlib.Core.Path.{◌≡◌}
use mathlib.Core.Bool.{not, ◌&&◌}
use lib.ListN.{drop}
use Rattle.sizes.specs.Sizes.{STATES}
use Rattle.meaning.specs.Lists.{every}
use Rattle.widget.proofs.fits.marks_fit.Given as goal

abbrev pub invariant-loop-i : goal.invariant-loop-i
invariant-loop-i l = l.fit && every not (drop l.i l.active) ≡ every not (drop l.states l.active)
