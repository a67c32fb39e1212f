-- The sizes of document 01, "Sizes": one name each, and no other definition has the number. Assumes nothing.
use Rattle.std.specs.Prelude.{ℕ, ◌+◌, ◌*◌}

-- states 2 to 64
abbrev pub LEAST_STATES : ℕ
LEAST_STATES = 2

abbrev pub STATES : ℕ
STATES = 64

-- variables 0 to 16
abbrev pub VARIABLES : ℕ
VARIABLES = 16

-- events 0 to 32, numbered from 1
abbrev pub EVENTS : ℕ
EVENTS = 32

-- transitions 0 to 128
abbrev pub TRANSITIONS : ℕ
TRANSITIONS = 128

-- actions 0 to 256 in all
abbrev pub ACTIONS : ℕ
ACTIONS = 256

-- queue 16 places
abbrev pub QUEUE : ℕ
QUEUE = 16

-- null steps 32 in one call
abbrev pub NULL_STEPS : ℕ
NULL_STEPS = 32

-- chart text 32,768 bytes
abbrev pub TEXT : ℕ
TEXT = 32768

-- every constant, argument and range end lies within plus or minus this
abbrev pub MOST : ℕ
MOST = 1000000000

-- "The plan": at most 200,000 instructions
abbrev pub INSTRUCTIONS : ℕ
INSTRUCTIONS = 200000

-- "One reaction": a started mark, a mark and a slot for each state, the variables, a queue length and its places of event and argument
abbrev pub STATE_NUMBERS : ℕ
STATE_NUMBERS = 1 + STATES + STATES + VARIABLES + 1 + QUEUE * 2
