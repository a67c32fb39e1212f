-- What the code says of one field, as the definitions have it. Assumes nothing.
use Rattle.std.specs.Prelude.{List, [], ◌∷◌, ℤ, Result, Ok, Err}
use Rattle.meaning.specs.Line.{Line, line, faulty}
use Rattle.meaning.specs.declared.Fault.{Fault}
use Rattle.fields.specs.declared.cells.Said.{Said}
use Rattle.fields.specs.declared.cells.Said.TheVariants.{Nothing, One, Two}

-- the numbers that are stated
abbrev pub row_of : Said → List ℤ
row_of Nothing = []
row_of (One value) = value ∷ []
row_of (Two lead value) = lead ∷ value ∷ []

abbrev pub said : Result Said Fault → Line
said (Ok r) = line 0 (row_of r)
said (Err f) = faulty f
