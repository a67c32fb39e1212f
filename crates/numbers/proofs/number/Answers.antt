-- `number` is exact below 2^31. Assumes nothing.
use mir.Facts.{to_z_pos}
use mir.Syntax.{w32}
use Rattle.numbers.proofs.number.Goals as goal

pub returns : goal.returns
returns c = to_z_pos w32 c.requires
