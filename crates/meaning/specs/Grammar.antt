-- The grammar of chart text (01, "Chart text"), the only place where the fields of a record are written down: reading and writing
-- a line (Line) and testing a row (Value, R0) are walks over it. In the order: fields; forms; the records. Letters stand as
-- characters. Assumes nothing.
use Rattle.std.specs.Prelude.{ℕ, zero, suc, ◌+◌, Bool, cond, List, [], ◌∷◌, eqb}
use Prim.Native.String.{[] as no_more, ◌∷◌ as ◌before◌}
use Prim.Native.String.{String}
use Prim.Native.Char.{code}
use Rattle.sizes.specs.Sizes.{STATES, VARIABLES, EVENTS, TRANSITIONS, ACTIONS}

abbrev pub bytes : String → List ℕ
bytes no_more = []
bytes (c before s) = code c ∷ bytes s

-- ---- fields, and how many numbers each gives to the record's row

pub data Field : Type 0 where
  -- the record's number: "numbered 0, 1, 2 in turn"; the row leaves it out
  turn : Field
  -- a number; a number from one end to another
  number : Field
  count : ℕ → ℕ → Field
  -- one of these letters
  letter : List ℕ → Field
  -- "-"
  dash : Field
  -- a target: a state's number, h and a state's number, or "-"; the row has the letter, 0 for none, and the number
  target_state target_history target_none : Field

abbrev pub width : Field → ℕ
width turn = 0
width number = 1
width (count low high) = 1
width (letter ls) = 1
width dash = 1
width target_state = 2
width target_history = 2
width target_none = 2

-- ---- forms: a field alone, a field and what follows it, or one of two forms

pub data Form : Type 0 where
  last : Field → Form
  ◌tab◌ : Field → Form → Form
  ◌or◌ : Form → Form → Form

infixr 60 ◌tab◌
infixr 50 ◌or◌
-- how many numbers its row has
abbrev pub size : Form → ℕ
size (last x) = width x
size (x tab xs) = width x + size xs
size (a or b) = size a

-- ---- the records

pub data Record : Type 0 where
  s_record v_record e_record t_record a_record no_record : Record

-- "records stand in the order S, V, one E, T, A"
abbrev pub ORDER : List Record
ORDER = s_record ∷ v_record ∷ e_record ∷ t_record ∷ a_record ∷ []

-- S: number, parent, kind (o, a, b), default. "State 0 alone has parent -. Default is a number for o, else -"
abbrev pub kind : Form
kind = (letter (bytes "o") tab last number) or (letter (bytes "ab") tab last dash)

-- T: "the three guard fields are all - or none is"; "target is a state, or h and a state's number for its history, or - for a
-- reaction in place"
abbrev pub target : Form
target = last target_none or last target_history or last target_state

abbrev pub guard : Form
guard = (dash tab dash tab dash tab target) or (number tab letter (bytes "=<>") tab number tab target)

-- A: act, first, second; the acts k and o have "-" as their second
abbrev pub act : Form
act = (letter (bytes "saq") tab number tab last number) or (letter (bytes "ko") tab number tab last dash)

-- the form of record n of a kind, behind its letter; a line that names no record has none
abbrev pub form : Record → ℕ → Form
form s_record zero = turn tab dash tab kind
form s_record (suc n) = turn tab number tab kind
form v_record n = turn tab number tab number tab last number
form e_record n = last (count 0 EVENTS)
form t_record n = turn tab number tab number tab guard
form a_record n = letter (bytes "exdt") tab number tab act
form no_record n = last (letter [])

abbrev pub name : Record → ℕ
name s_record = code "S"
name v_record = code "V"
name e_record = code "E"
name t_record = code "T"
name a_record = code "A"
name no_record = 0

-- how many there may be
abbrev pub most : Record → ℕ
most s_record = STATES
most v_record = VARIABLES
most e_record = 1
most t_record = TRANSITIONS
most a_record = ACTIONS
most no_record = 0

-- how many numbers a row of the kind has
abbrev pub row_size : Record → ℕ
row_size r = size (form r 0)

abbrev pub same : Record → Record → Bool
same r q = eqb (name r) (name q)

-- the record that a letter names
abbrev pub named_in : List Record → ℕ → Record
named_in [] k = no_record
named_in (r ∷ rs) k = cond (eqb k (name r)) r (named_in rs k)

unfoldable pub record_by : ℕ → Record
record_by k = named_in ORDER k

-- everything above, opened: for statements that compute
unfoldable pub grammar_open : ℕ
unfolding record_by
grammar_open = 0
