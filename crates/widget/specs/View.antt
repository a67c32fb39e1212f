-- What a step works on: a widget's state, which is lent and changed where it stands, and the lent trace with its next free place; what
-- these say in the words of the definitions (01, "One reaction"); and the one form in which every step function of the code is promised:
-- what it leaves behind is what the step gives. Assumes nothing.
use Rattle.std.specs.Prelude.{◌≡◌, ℕ, ◌-◌, ◌≤◌, List, length, take, leb, ℤ, IfOk, Result, Ok, Err}
use Rattle.meaning.specs.Answers.{number_by, NO_ROOM}
use Rattle.meaning.specs.declared.answers.Refusal.{Refusal}
use Rattle.meaning.specs.declared.State.{State}
use Rattle.meaning.specs.Steps.{Res, ok, refuse, Step, ◌then◌, require}
use Rattle.meaning.specs.Widget.{Ctx, add_numbers, ENTRY}

-- ---- what it says

-- a state whose trace so far is the first numbers of a lent slice; the rest of the slice is room
unfoldable pub ctx : State → List ℤ → ℕ → Ctx
ctx u trace at = record { state = u; out = take at trace; room = length trace - at }

-- what a step function's result says, over what is lent after it; of a refusal nothing is said of the state or of the trace's numbers
unfoldable pub went : Result ℕ Refusal → State → List ℤ → Res Ctx
went (Ok at) u trace = ok (ctx u trace at)
went (Err e) u trace = refuse (number_by e)

-- ---- promises

-- the promise of a step function: from what is lent before it, its result and what is lent after it are what the step gives; the next free
-- place stays within the lent slice, whose length never changes
pub record Did (D : Step Ctx) (u : State) (trace : List ℤ) (at : ℕ) (r : Result ℕ Refusal) (u' : State) (trace' : List ℤ) : Type 0 where
  pub does : went r u' trace' ≡ D (ctx u trace at)
  pub fits : IfOk r (λ n. n ≤ length trace')
  pub kept : length trace' ≡ length trace

-- between two steps: what the step E gives from here is what the step D gives from the start
pub record Owes (D : Step Ctx) (u : State) (trace : List ℤ) (at : ℕ) (E : Step Ctx) (u' : State) (trace' : List ℤ) (at' : ℕ) : Type 0 where
  pub gives : E (ctx u' trace' at') ≡ D (ctx u trace at)
  pub fits : at' ≤ length trace'
  pub kept : length trace' ≡ length trace

-- three numbers into the trace, or 11: `emit` of the entry that has these numbers
unfoldable pub note : List ℤ → Step Ctx
note ns k = (require NO_ROOM (leb ENTRY k.room) then add_numbers ns) k

-- the promise of writing an entry, of whatever state
pub record Noted (ns : List ℤ) (trace : List ℤ) (at : ℕ) (r : Result ℕ Refusal) (trace' : List ℤ) : Type 0 where
  pub does : (u : State) → went r u trace' ≡ note ns (ctx u trace at)
  pub fits : IfOk r (λ n. n ≤ length trace')
  pub kept : length trace' ≡ length trace
