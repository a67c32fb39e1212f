-- What is held while a text is read line by line: how far the reading has come, and what the lent numbers hold then. Assumes nothing.
use Rattle.std.specs.Prelude.{◌≡◌, List, [], ◌∷◌, ◌++◌, ℕ, ◌+◌, ◌-◌, ◌<◌, ◌≤◌, ℤ, pos, length, drop}
use Rattle.std.specs.declared.ops.ControlFlow.{ControlFlow}
use Rattle.std.specs.declared.ops.ControlFlow.TheVariants.{Continue, Break}
use Rattle.meaning.specs.Lists.{concat_map}
use Rattle.meaning.specs.Value.{Rows, Part, counted, laid, PARTS, VALUE}
use Rattle.meaning.specs.Split.{lines}
use Rattle.meaning.specs.Text.{part_of, no_rows, walk}
use Rattle.meaning.specs.declared.Answer.{Answer}
use Rattle.round_trip.specs.Rows.{Fit}
use Rattle.reader.specs.Order.{turns_in}
use Rattle.reader.specs.declared.order.Turns.{Turns}
use Rattle.reader.specs.Scanned.{zeros, Scanned}
use Rattle.reader.specs.declared.scan.Progress.{Progress}

-- a chart's numbers while its text is read: the counts still 0; z is what lies past them
abbrev pub laid_part : Rows → Part → List ℤ
laid_part rows (counted r) = pos 0 ∷ []
laid_part rows (laid r) = part_of rows (laid r)

unfoldable pub laid_out : Rows → List ℤ → List ℤ
laid_out rows z = concat_map (laid_part rows) PARTS ++ z

-- n0 numbers are lent, s is the text: what holds before the line n, which starts at a place
pub record Walking (s : List ℕ) (n0 : ℕ) (l : List ℤ) (at n : ℕ) (t : Turns) : Type 0 where
  pub read : Rows
  pub turns : t ≡ turns_in read
  pub numbers : VALUE ≤ n0 → l ≡ laid_out read (zeros (n0 - VALUE))
  pub fit : Fit read
  pub size : length l ≡ n0
  pub inside : at ≤ length s
  pub line : n ≤ at + 1
  pub same : walk n read (lines (drop at s)) ≡ walk 1 no_rows (lines s)

-- nothing is counted
abbrev pub no_turns : Turns
no_turns = turns_in no_rows

-- before the first line
abbrev pub begun : Progress
begun = record { at = 0; line = 1; turns = no_turns }

-- of the line that starts at a place: the next line, which starts further on, is to be read, or the reading is over with its answer
abbrev pub Onward : List ℕ → ℕ → List ℤ → ℕ → ControlFlow Answer Progress → Type 0
Onward s n0 l at (Continue p) = Walking s n0 l p.at p.line p.turns × (at < p.at)
Onward s n0 l at (Break a) = Scanned (walk 1 no_rows (lines s)) a n0 l
