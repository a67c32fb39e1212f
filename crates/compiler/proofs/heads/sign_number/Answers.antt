-- `sign_number`: the number of each sign, as the declaration gives it. Assumes nothing.
use mathlib.Core.Path.{◌≡◌, refl}
use lib.IntN.{pos, ◌+ℤ◌}
use mir.Syntax.{w32}
use mir.Val.{to_z, of_z}
use denote.Enum.Declared.{tag_of}
use Rattle.meaning.specs.contracts.chart.Sign.{the_type}
use Rattle.meaning.specs.declared.chart.Sign.{Sign}
use Rattle.meaning.specs.declared.chart.Sign.TheVariants.{Equal, Less, More}
use Rattle.meaning.specs.Plan.{sign_number}
use Rattle.compiler.proofs.heads.sign_number.Goals as goal

declared : (s : Sign) → to_z w32 (of_z w32 (to_z w32 (tag_of the_type s) +ℤ pos 1)) ≡ sign_number s
unfolding sign_number
declared Equal = refl
declared Less = refl
declared More = refl

pub returns : goal.returns
returns c = declared c.args.sign
