-- A widget's state and what a call works on (01, "One reaction"): marks, slots, variables, queue, the trace so far and the room left.
-- Each change of one place has its own definition. The state is the declared struct State, at 01's full size. Assumes nothing.
use Rattle.std.specs.Prelude.{ℕ, zero, suc, ◌+◌, ◌-◌, ◌/◌, Bool, true, false, List, [], ◌∷◌, ◌++◌, length, get_or, set, replicate, ℤ, pos, negsuc, leb, Option, None, Some}
use Rattle.queue.specs.declared.Queue.{Queue}
use Rattle.meaning.specs.Answers.{NO_ROOM}
use Rattle.meaning.specs.declared.State.{State}
use Rattle.meaning.specs.Steps.{Res, ok, refuse, Step, ◌then◌, require}
-- "An empty slot is -1": a slot is None, or Some state; no number below 0 is a state
pub use Rattle.numbers.specs.Place.{place_of as as_slot}
-- an entry of the trace is the type declared in src/lib.rt: 1 transition taken; 2 state left; 3 state entered; 4 variable and its new
-- value; 5 event sent and its argument; 6 number told
pub use Rattle.meaning.specs.declared.Entry.{Entry}
pub use Rattle.meaning.specs.declared.Entry.TheVariants.{Taken as taken, Left as left, Entered as entered, Changed as changed}
pub use Rattle.meaning.specs.declared.Entry.TheVariants.{Sent as sent, Told as told}

-- the state, the trace numbers so far, and how many more numbers there is room for
pub record Ctx : Type 0 where
  pub state : State
  pub out : List ℤ
  pub room : ℕ

-- ---- reading a place

unfoldable pub is_active : State → ℕ → Bool
is_active u s = get_or u.active s false

-- what a slot holds; a slot is told from a state by its own type, so that no marker is ever taken for a state
unfoldable pub slot : State → ℕ → Option ℕ
slot u s = as_slot (get_or u.slots s (negsuc 0))

unfoldable pub is_empty : Option ℕ → Bool
is_empty None = true
is_empty (Some d) = false

unfoldable pub is_filled : Option ℕ → Bool
is_filled None = false
is_filled (Some d) = true

unfoldable pub value_at : State → ℕ → ℤ
value_at u v = get_or u.vars v (pos 0)

-- ---- changing a place

unfoldable pub set_active : ℕ → Bool → State → State
set_active s b u = record { started = u.started; active = set u.active s b; slots = u.slots; vars = u.vars; queue = u.queue }

unfoldable pub set_slot : ℕ → ℕ → State → State
set_slot p s u = record { started = u.started; active = u.active; slots = set u.slots p (pos s); vars = u.vars; queue = u.queue }

unfoldable pub set_value : ℕ → ℤ → State → State
set_value v x u = record { started = u.started; active = u.active; slots = u.slots; vars = set u.vars v x; queue = u.queue }

unfoldable pub set_queue : Queue → State → State
set_queue q u = record { started = u.started; active = u.active; slots = u.slots; vars = u.vars; queue = q }

unfoldable pub change : (State → State) → Step Ctx
change f k = ok (record { state = f k.state; out = k.out; room = k.room })

-- ---- the trace

-- "three signed 32-bit numbers an entry"; "An unused third" is 0
unfoldable pub numbers : Entry → List ℤ
numbers (taken t) = pos 1 ∷ pos t ∷ pos 0 ∷ []
numbers (left s) = pos 2 ∷ pos s ∷ pos 0 ∷ []
numbers (entered s) = pos 3 ∷ pos s ∷ pos 0 ∷ []
numbers (changed v x) = pos 4 ∷ pos v ∷ x ∷ []
numbers (sent e x) = pos 5 ∷ pos e ∷ x ∷ []
numbers (told x) = pos 6 ∷ x ∷ pos 0 ∷ []

abbrev pub ENTRY : ℕ
ENTRY = 3

unfoldable pub add_numbers : List ℤ → Step Ctx
add_numbers ns k = ok (record { state = k.state; out = k.out ++ ns; room = k.room - ENTRY })

-- an entry is "written before the effect goes on"; 11 "no room for the next trace entry"
unfoldable pub emit : Entry → Step Ctx
emit e k = (require NO_ROOM (leb ENTRY k.room) then add_numbers (numbers e)) k

-- a call starts with nothing written in a lent slice of n numbers
unfoldable pub begin : State → ℕ → Ctx
begin u n = record { state = u; out = []; room = n }

-- everything above, opened: for statements that compute
unfoldable pub widget_open : ℕ
unfolding is_active slot is_empty is_filled value_at set_active set_slot set_value set_queue change numbers add_numbers emit begin
widget_open = 0
