-- `marks_fit` looks at every mark from `states` on. Assumes nothing.
use mathlib.Core.Path.{◌≡◌}
use native.Mathlib.Omega.{arith}
use borrow.Author.Rules.{rules}
use mathlib.Core.Bool.{not, false}
use lib.ListN.{length}
use Rattle.sizes.specs.Sizes.{STATES}
use Rattle.widget.proofs.Every.{every_and, every_all}
use Rattle.widget.proofs.fits.marks_fit.Goals.{Start}
use Rattle.widget.proofs.fits.marks_fit.Goals as goal

long : (c : Start) → length c.args.active ≡ STATES
long c = search rules

pub loop-i-preserved : goal.loop-i-preserved
loop-i-preserved c =
    every_and not c.args.active c.loop-i.i c.loop-i.fit false c.loop-i.invariant
    (omega (arith, long c.before.before))

pub returns : goal.returns
returns c =
    every_all not c.args.active c.loop-i.i c.loop-i.invariant (omega (arith, long c.before.before))
