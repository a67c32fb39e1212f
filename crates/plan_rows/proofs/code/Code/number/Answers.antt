-- The number of each code, as the declaration gives it. Assumes nothing.
use mathlib.Core.Path.{◌≡◌, refl}
use lib.IntN.{pos, ◌+ℤ◌}
use mir.Syntax.{w32}
use mir.Val.{to_z, of_z}
use denote.Enum.Declared.{tag_of}
use Rattle.plan_rows.specs.contracts.code.Code.{the_type}
use Rattle.plan_rows.specs.declared.code.Code.{Code}
use Rattle.plan_rows.specs.declared.code.Code.TheVariants.{In, Out, SkipOut, SkipEmpty, SkipFull, SkipNot, Set, Add, Take, Send, Tell}
use Rattle.plan_rows.specs.Codes.{code_number}
use Rattle.plan_rows.proofs.code.Code.number.Goals as goal

declared : (s : Code) → to_z w32 (of_z w32 (to_z w32 (tag_of the_type s) +ℤ pos 1)) ≡ pos (code_number s)
unfolding code_number
declared In = refl
declared Out = refl
declared SkipOut = refl
declared SkipEmpty = refl
declared SkipFull = refl
declared SkipNot = refl
declared Set = refl
declared Add = refl
declared Take = refl
declared Send = refl
declared Tell = refl

pub returns : goal.returns
returns c = declared c.args.self
