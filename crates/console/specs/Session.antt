-- The input as the trace program meets it, byte by byte (01, the end of "Checked by example"): the widget and the line under way, what one
-- byte does, and what the end of the input does. What a line does is a parameter. That all of it prints what 01 says of the input's lines
-- is proved in proofs/Session. Assumes nothing.
use Rattle.std.specs.Prelude.{ℕ, Bool, true, false, List, [], ◌∷◌, ◌++◌, eqb}
use Rattle.meaning.specs.declared.State.{State}
use Rattle.meaning.specs.Split.{LF}
use Rattle.meaning.specs.Program.{Input, Turn}
use Rattle.console.specs.declared.scan.Scan.{Scan}
use Rattle.console.specs.Scan.{empty, fed, line_at, began}

-- what a line does to a widget: Program's `turn` of a chart
abbrev pub Turns : Type 0
Turns = State → Input → Turn

-- the widget, and the line under way
pub record Under : Type 0 where
  pub state : State
  pub scan : Scan

-- what they are after a byte, and what was printed
pub record Passed : Type 0 where
  pub under : Under
  pub printed : List ℕ

-- a line that ends: its turn, and the next line has not begun
abbrev pub ended : Turn → Passed
ended t = record { under = record { state = t.state; scan = empty }; printed = t.printed }

abbrev pub by_end : Turns → Under → ℕ → Bool → Passed
by_end f u b true = ended (f u.state (line_at u.scan))
by_end f u b false = record { under = record { state = u.state; scan = fed u.scan b }; printed = [] }

-- one byte: LF ends the line
unfoldable pub passed : Turns → Under → ℕ → Passed
passed f u b = by_end f u b (eqb b LF)

abbrev pub by_began : Turns → Under → Bool → Passed
by_began f u true = ended (f u.state (line_at u.scan))
by_began f u false = record { under = u; printed = [] }

-- the end of the input: "The last line may lack its LF"
unfoldable pub finished : Turns → Under → Passed
finished f u = by_began f u (began u.scan)

-- these bytes, one after the other: where they leave the widget and the line, and what they print
unfoldable pub passed_all : Turns → Under → List ℕ → Passed
passed_all f u [] = record { under = u; printed = [] }
passed_all f u (b ∷ bs) =
    let p = passed f u b in
    let q = passed_all f p.under bs in
    record { under = q.under; printed = p.printed ++ q.printed }

-- the whole input from here
unfoldable pub all_printed : Turns → Under → List ℕ → List ℕ
all_printed f u [] = (finished f u).printed
all_printed f u (b ∷ bs) = let p = passed f u b in p.printed ++ all_printed f p.under bs
