-- What stands between any two effects of a reaction over a chart, whatever phase of a firing it is in: sizes, values, slots,
-- queue and trace. Assumes nothing.
use Rattle.std.specs.Prelude.{◌≡◌, ◌<◌, ◌≤◌, ℕ, true, List, get_or, length, negsuc, pos, ℤ}
use Rattle.numbers.specs.Range.{in_range}
use Rattle.sizes.specs.Sizes.{QUEUE, STATES, VARIABLES}
use Rattle.laws.specs.Facts.{Each}
use Rattle.meaning.specs.Chart.{Chart}
use Rattle.meaning.specs.Foreign.{queue_fits}
use Rattle.meaning.specs.Lists.{concat_map}
use Rattle.meaning.specs.Rules.{within_row}
use Rattle.meaning.specs.Tree.{is_child, kind_of, var_row}
use Rattle.meaning.specs.Widget.{Ctx, numbers}
use Rattle.meaning.specs.declared.Entry.{Entry}
use Rattle.meaning.specs.declared.Entry.TheVariants.{Changed as changed, Entered as entered, Left as left, Sent as sent, Taken as taken, Told as told}
use Rattle.meaning.specs.declared.State.{State}
use Rattle.meaning.specs.declared.chart.Kind.TheVariants.{O as kind_o}
use Rattle.meaning.specs.declared.chart.VarRow.{VarRow}

-- the lists of a state at 01's full size, as the declared struct has them
pub record Sized (u : State) : Type 0 where
  pub active : length u.active ≡ STATES
  pub slots : length u.slots ≡ STATES
  pub vars : length u.vars ≡ VARIABLES
  pub items : length u.queue.items ≡ QUEUE

-- each value lies in its row, and places not in use hold 0
pub record Values (vs : List VarRow) (xs : List ℤ) : Type 0 where
  pub inside : (v : ℕ) → v < length vs → within_row (var_row vs v) (get_or xs v (pos 0)) ≡ true
  pub outside : (v : ℕ) → length vs ≤ v → get_or xs v (pos 0) ≡ pos 0

-- -1, or at an o state its child
abbrev pub SlotOk : Chart → ℕ → ℤ → Type 0
SlotOk c s (pos d) = (kind_of c s ≡ kind_o) × (is_child c s d ≡ true) × (d < length c.states)
SlotOk c s (negsuc n) = n ≡ 0

abbrev pub SlotsOk : Chart → List ℤ → Type 0
SlotsOk c sl = (s : ℕ) → SlotOk c s (get_or sl s (negsuc 0))

-- an entry names a transition, a state, a variable with a value of its row, or an event of the chart; arguments and told numbers
-- are in 01's range
abbrev pub EntryOk : Chart → Entry → Type 0
EntryOk c (taken t) = t < length c.transitions
EntryOk c (left s) = s < length c.states
EntryOk c (entered s) = s < length c.states
EntryOk c (changed v x) = (v < length c.vars) × (within_row (var_row c.vars v) x ≡ true)
EntryOk c (sent e x) = (1 ≤ e) × (e ≤ c.events) × (in_range x ≡ true)
EntryOk c (told x) = in_range x ≡ true

-- the numbers of a trace are those of entries that are all so
abbrev pub Traced : Chart → List ℤ → Type 0
Traced c out = (es : List Entry) × (out ≡ concat_map numbers es) × Each (EntryOk c) es

-- all of it
pub record Good (c : Chart) (k : Ctx) : Type 0 where
  pub started : k.state.started ≡ true
  pub sized : Sized k.state
  pub values : Values c.vars k.state.vars
  pub queue : queue_fits c.events k.state.queue ≡ true
  pub slots : SlotsOk c k.state.slots
  pub trace : Traced c k.out
