-- The answer numbers (01, "Answer numbers"), one name each; src/answers.rt has the same. Assumes nothing.
use Rattle.std.specs.Prelude.{ℕ, Result, Ok, Err}
use Rattle.meaning.specs.declared.Answer.{Answer}
pub use Rattle.meaning.specs.declared.answers.Refusal.{Refusal}
pub use Rattle.meaning.specs.declared.answers.Refusal.TheVariants.{WrongLine, OutsideSize, RuleFails, PlanTooLong, NotAPlan, Foreign, NotStarted}
pub use Rattle.meaning.specs.declared.answers.Refusal.TheVariants.{QueueEmpty, QueueFull, NoSuchEvent, NoRoom, Unsettled, TextTooLong, SlotEmpty}

-- 0: "done"
abbrev pub DONE : ℕ
DONE = 0

-- 1: "a line has a wrong form, place or number, or the E line is missing"
abbrev pub WRONG_LINE : ℕ
WRONG_LINE = 1

-- 2: "a count or number is outside its size"
abbrev pub OUTSIDE_SIZE : ℕ
OUTSIDE_SIZE = 2

-- 3: "a rule fails, the first named"
abbrev pub RULE_FAILS : ℕ
RULE_FAILS = 3

-- 4: "the plan is longer than the slice lent"
abbrev pub PLAN_TOO_LONG : ℕ
PLAN_TOO_LONG = 4

-- 5: "a plan is cut short or not well formed"
abbrev pub NOT_A_PLAN : ℕ
NOT_A_PLAN = 5

-- 6: "a started state is foreign"
abbrev pub FOREIGN : ℕ
FOREIGN = 6

-- 7: "not started"
abbrev pub NOT_STARTED : ℕ
NOT_STARTED = 7

-- 8: "queue empty at run or discard"
abbrev pub QUEUE_EMPTY : ℕ
QUEUE_EMPTY = 8

-- 9: "queue full at post or send"
abbrev pub QUEUE_FULL : ℕ
QUEUE_FULL = 9

-- 10: "event not 1 to the count, or argument out of range"
abbrev pub NO_SUCH_EVENT : ℕ
NO_SUCH_EVENT = 10

-- 11: "no room for the next trace entry"
abbrev pub NO_ROOM : ℕ
NO_ROOM = 11

-- 12: "a 33rd null step is needed"
abbrev pub UNSETTLED : ℕ
UNSETTLED = 12

-- 13: "text longer than the buffer"
abbrev pub TEXT_TOO_LONG : ℕ
TEXT_TOO_LONG = 13

-- 14: "a restore meets an empty slot below its owner"
abbrev pub SLOT_EMPTY : ℕ
SLOT_EMPTY = 14

-- ---- a refusal in the code is an enum: the number of each of its cases, and the place given with it

abbrev pub number_by : Refusal → ℕ
number_by (WrongLine p) = WRONG_LINE
number_by (OutsideSize p) = OUTSIDE_SIZE
number_by (RuleFails p) = RULE_FAILS
number_by PlanTooLong = PLAN_TOO_LONG
number_by NotAPlan = NOT_A_PLAN
number_by Foreign = FOREIGN
number_by NotStarted = NOT_STARTED
number_by QueueEmpty = QUEUE_EMPTY
number_by QueueFull = QUEUE_FULL
number_by NoSuchEvent = NO_SUCH_EVENT
number_by NoRoom = NO_ROOM
number_by Unsettled = UNSETTLED
number_by TextTooLong = TEXT_TOO_LONG
number_by SlotEmpty = SLOT_EMPTY

abbrev pub place_by : Refusal → ℕ
place_by (WrongLine p) = p
place_by (OutsideSize p) = p
place_by (RuleFails p) = p
place_by PlanTooLong = 0
place_by NotAPlan = 0
place_by Foreign = 0
place_by NotStarted = 0
place_by QueueEmpty = 0
place_by QueueFull = 0
place_by NoSuchEvent = 0
place_by NoRoom = 0
place_by Unsettled = 0
place_by TextTooLong = 0
place_by SlotEmpty = 0

-- what a call that is done or refused answers
abbrev pub answer_by : {A : Type 0} → Result A Refusal → Answer
answer_by (Ok a) = record { number = DONE; place = 0 }
answer_by (Err e) = record { number = number_by e; place = place_by e }
