-- What a step of the session gives: the widget, what was printed behind the place in the lent bytes, and that all of it is there where
-- they had enough room. Assumes nothing.
use Rattle.std.specs.Prelude.{ℕ, ◌+◌, ◌*◌, ◌≤◌, ◌≡◌, List, [], ℤ, length, Ok, Err}
use Rattle.std.specs.Prelude.{Result as Opened}
use Rattle.meaning.specs.declared.State.{State}
use Rattle.meaning.specs.Value.{chart_of}
use Rattle.meaning.specs.Calls.{start, unstarted}
use Rattle.meaning.specs.Text.{Result, done, refused}
use Rattle.meaning.specs.Program.{ENTRIES, ROOM, Turn, report, reported}
use Rattle.meaning.specs.Rules.{Ruled}
use Rattle.pen.specs.Pen.{pen, put_all}
use Rattle.console.specs.Shown.{HEAD, LINE}
use Rattle.console.specs.Session.{Passed}
use Rattle.console.specs.Session.{Under as Seen}
use Rattle.session.specs.declared.Turned.{Turned}
use Rattle.session.specs.declared.Under.{Under}

-- free room that is enough for the report of any call: for its head, and for each of 1,000 entries
abbrev pub LARGEST : ℕ
LARGEST = HEAD + LINE * ENTRIES

-- t is what the definition says of it
pub record Takes (t : Turn) (before : List ℕ) (at : ℕ) (after : List ℕ) (r : Turned) : Type 0 where
  pub widget : r.state ≡ t.state
  pub bytes : pen after r.at ≡ put_all t.printed (pen before at)
  pub whole : at + LARGEST ≤ length before → r.at ≤ at + LARGEST

-- R, number, 0, and the widget as it was
abbrev pub quiet : ℕ → State → Turn
quiet number u = record { state = u; printed = report number [] }

-- opening the session: "A refused chart prints the same and ends the program", which is an Err; a chart that was read passes the rules,
-- and the widget starts
pub record Starts (v chart : List ℤ) (before : List ℕ) (at : ℕ) (after : List ℕ) (r : Turned) : Type 0 where
  pub value : chart ≡ v
  pub ruled : Ruled v
  pub takes : Takes (reported (start (chart_of v) unstarted ROOM)) before at after r

unfoldable pub Opens : Result (List ℤ) → List ℤ → List ℕ → ℕ → List ℕ → Opened Turned Turned → Type 0
Opens (refused n p) chart before at after (Err r) = Takes (quiet n unstarted) before at after r
Opens (refused n p) chart before at after (Ok r) = ⊥
Opens (done v) chart before at after (Ok r) = Starts v chart before at after r
Opens (done v) chart before at after (Err r) = ⊥

-- the same of the widget and the line under way
pub record Passes (p : Passed) (before : List ℕ) (at : ℕ) (after : List ℕ) (r : Under) : Type 0 where
  pub widget : r.state ≡ p.under.state
  pub line : r.scan ≡ p.under.scan
  pub bytes : pen after r.at ≡ put_all p.printed (pen before at)
  pub whole : at + LARGEST ≤ length before → r.at ≤ at + LARGEST

-- the widget and the line under way, without the place
abbrev pub seen : Under → Seen
seen u = record { state = u.state; scan = u.scan }
