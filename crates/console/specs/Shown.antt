-- What is printed of a call from a lent trace (01, the end of "Checked by example"): the entries that are shown, one entry's line, and
-- the room that is enough.
-- Assumes nothing.
use Rattle.std.specs.Prelude.{ℕ, ◌+◌, ◌*◌, ◌/◌, min, List, [], ◌∷◌, ◌++◌, ℤ, length, take}
use Rattle.meaning.specs.Number.{numeral}
use Rattle.meaning.specs.Split.{LF}
use Rattle.meaning.specs.Widget.{ENTRY}
use Rattle.meaning.specs.Program.{SPACE}

-- how many of so many entries the trace holds: all of them, where it is long enough
abbrev pub entries_held : ℕ → List ℤ → ℕ
entries_held entries trace = min entries (length trace / ENTRY)

-- their numbers
unfoldable pub shown : ℕ → List ℤ → List ℤ
shown entries trace = take (ENTRY * entries_held entries trace) trace

-- one entry: "one a line, single spaces"
unfoldable pub entry_line : ℤ → ℤ → ℤ → List ℕ
entry_line x y z = numeral x ++ SPACE ∷ numeral y ++ SPACE ∷ numeral z ++ LF ∷ []

-- ---- the room that is enough for a report: its head, and a line for each entry of the trace
abbrev pub HEAD : ℕ
HEAD = 48

abbrev pub LINE : ℕ
LINE = 36

abbrev pub largest : List ℤ → ℕ
largest trace = HEAD + LINE * (length trace / ENTRY)
