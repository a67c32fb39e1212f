-- A line with its LF, what the writer asks of a row, and how a form tells that a row has it. Assumes nothing.
use Rattle.std.specs.Prelude.{ℕ, ◌+◌, ◌≤◌, ◌<◌, ◌≡◌, Bool, true, false, List, [], ◌∷◌, ◌++◌, ℤ}
use Rattle.numbers.specs.Reference.{NOWHERE}
use Rattle.meaning.specs.Grammar.{Record, form, name, most}
use Rattle.meaning.specs.Value.{fits}
use Rattle.meaning.specs.Split.{LF, joined}
use Rattle.meaning.specs.Line.{write_by}
use Rattle.forms.specs.Table.{field_of}
use Rattle.forms.specs.declared.Entry.{Entry}
use Rattle.forms.specs.declared.Entry.TheVariants.{Last, More, Or}
use Rattle.round_trip.specs.Rows.{tells}

-- "each line ended by LF"
unfoldable pub with_lf : List ℕ → List ℕ
with_lf l = l ++ (LF ∷ [])

-- the line of record n of a kind, from the numbers at a place on
unfoldable pub line_at : Record → ℕ → ℕ → List ℤ → List ℕ
line_at r n from v = joined ((name r ∷ []) ∷ write_by (form r n) n from v)

-- a text can state the numbers at a place as such a record
pub record Statable (r : Record) (n from : ℕ) (v : List ℤ) : Type 0 where
  pub room : n < most r
  pub fit : fits (form r n) from v ≡ true
  pub near : from + 200 ≤ NOWHERE

-- the first number of a row tells that it has the form of an entry that is no choice
abbrev pub told : Entry → ℤ → Bool
told (Last f) z = tells (field_of f) z
told (More f) z = tells (field_of f) z
told (Or k) z = false
