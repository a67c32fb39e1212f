-- What the trace program prints for a chart text and an input (01, the end of "Checked by example"). In the order: what is printed of a
-- call; the form of an input line; what a line does; the whole output. Bytes are their codes. Assumes nothing.
use Rattle.std.specs.Prelude.{ℕ, zero, suc, ◌+◌, ◌*◌, ◌/◌, Bool, true, false, List, [], ◌∷◌, ◌++◌, length, ℤ, pos, eqb, Option, None, Some, Result, Ok, Err}
use Rattle.meaning.specs.declared.State.{State}
use Rattle.queue.specs.declared.Item.{Item}
use Rattle.meaning.specs.declared.Fault.{Fault}
use Rattle.meaning.specs.declared.Fault.TheVariants.{Wrong, Beyond}
use Rattle.meaning.specs.Chart.{Chart}
use Rattle.meaning.specs.Value.{VALUE, chart_of}
use Rattle.meaning.specs.Widget.{ENTRY}
use Rattle.meaning.specs.Calls.{unstarted, start, run, post}
use Rattle.meaning.specs.Calls as calls
use Rattle.meaning.specs.Number.{BEYOND, number_of, digits, numeral}
use Rattle.meaning.specs.Split.{LF, fields, lines}
use Rattle.meaning.specs.Text.{read}
use Rattle.meaning.specs.Text as text

-- "With room for 1,000 entries"
abbrev pub ENTRIES : ℕ
ENTRIES = 1000

abbrev pub ROOM : ℕ
ROOM = ENTRY * ENTRIES

abbrev pub SPACE : ℕ
SPACE = 32

-- ---- what is printed of a call

-- "the entries, one a line, single spaces"
unfoldable pub entry_lines : List ℤ → List ℕ
entry_lines [] = []
entry_lines (x ∷ []) = []
entry_lines (x ∷ y ∷ []) = []
entry_lines (x ∷ y ∷ z ∷ more) = numeral x ++ SPACE ∷ numeral y ++ SPACE ∷ numeral z ++ LF ∷ entry_lines more

-- "A start or run prints R, answer, entry count, then the entries"; 82 is R
unfoldable pub report : ℕ → List ℤ → List ℕ
report n trace = 82 ∷ SPACE ∷ digits n ++ SPACE ∷ digits (length trace / ENTRY) ++ LF ∷ entry_lines trace

-- ---- the form of an input line

-- a line of the input: an event and its argument to post, or a line of another form
abbrev pub Input : Type 0
Input = Option Item

abbrev pub posts : ℤ → ℤ → Input
posts e a = Some (record { event = e; arg = a })

abbrev pub another_form : Input
another_form = None

-- "a number past ±1,000,000,000 is posted as 1,000,000,001"
unfoldable pub input_by : Result ℤ Fault → Result ℤ Fault → Input
input_by (Ok e) (Ok a) = posts e a
input_by (Ok e) (Err Beyond) = posts e (pos BEYOND)
input_by (Ok e) (Err Wrong) = another_form
input_by (Err Beyond) (Ok a) = posts (pos BEYOND) a
input_by (Err Beyond) (Err Beyond) = posts (pos BEYOND) (pos BEYOND)
input_by (Err Beyond) (Err Wrong) = another_form
input_by (Err Wrong) a = another_form

-- "lines of event, tab, argument"
unfoldable pub input_of : List (List ℕ) → Input
input_of [] = another_form
input_of (e ∷ []) = another_form
input_of (e ∷ a ∷ []) = input_by (number_of e) (number_of a)
input_of (e ∷ a ∷ b ∷ more) = another_form

-- the lines of the input: "The last line may lack its LF"
unfoldable pub input_lines : List (List ℕ) → List (List ℕ)
input_lines [] = []
input_lines ([] ∷ []) = []
input_lines ((b ∷ bs) ∷ []) = (b ∷ bs) ∷ []
input_lines (l ∷ k ∷ ls) = l ∷ input_lines (k ∷ ls)

-- ---- what a line does

-- the widget afterwards, and what was printed
pub record Turn : Type 0 where
  pub state : State
  pub printed : List ℕ

abbrev pub reported : calls.Outcome → Turn
reported o = record { state = o.after; printed = report o.number o.trace }

-- "Of posts only a refused one prints: R, number, 0; it is not run"
unfoldable pub after_post : Chart → calls.Outcome → Turn
after_post c o = elim (eqb o.number 0) [
  | true ↦ reported (run c o.after ROOM)
  | false ↦ reported o
]

-- "A line of another form prints `R 1 0`"
unfoldable pub do_line : Chart → State → Input → Turn
do_line c u (Some i) = after_post c (post c u i.event i.arg)
do_line c u None = record { state = u; printed = report 1 [] }

-- ---- the whole output

-- "then posts and runs each line"
unfoldable pub turns : Chart → State → List (List ℕ) → List ℕ
turns c u [] = []
turns c u (l ∷ ls) = let t = do_line c u (input_of (fields l)) in t.printed ++ turns c t.state ls

unfoldable pub session : Chart → Turn → List ℕ → List ℕ
session c t input = t.printed ++ turns c t.state (input_lines (lines input))

-- "it starts, then posts and runs each line"; "A refused chart prints the same and ends the program"
unfoldable pub output_by : text.Result (List ℤ) → List ℕ → List ℕ
output_by (text.refused n p) input = report n []
output_by (text.done v) input = let c = chart_of v in session c (reported (start c unstarted ROOM)) input

-- what the program prints for the text of `chart.txt` (a missing one is empty) and its standard input
unfoldable pub output : List ℕ → List ℕ → List ℕ
output chart input = output_by (read chart VALUE) input

-- everything above, opened: for statements that compute
unfoldable pub program_open : ℕ
unfolding entry_lines report input_by input_of input_lines after_post do_line turns session output_by output
program_open = 0
