-- A plan as data and as numbers (01, "The plan"): instructions, heads, the plan, and the numbers of each. Assumes nothing.
-- The instructions and heads are the types declared in src/plan.rt, by the names that the definitions use.
use Rattle.std.specs.Prelude.{ℕ, List, [], ◌∷◌, ◌++◌, length, ℤ, pos, negsuc, Option, None, Some}
use Rattle.meaning.specs.Lists.{concat_map}
use Rattle.meaning.specs.Chart.{Sign, equal, less, more, Guard, always, compares, Act, set_to, add_to, take_to, send, tell, VarRow}
-- IN, OUT, SKIPOUT, SKIPEMPTY, SKIPFULL, SKIPNOT, and SET, ADD, TAKE, SEND, TELL, which are the acts
pub use Rattle.meaning.specs.declared.plan.Instr.{Instr}
pub use Rattle.meaning.specs.declared.plan.Instr.TheVariants.{In as go_in, Out as go_out, SkipOut as skip_out}
pub use Rattle.meaning.specs.declared.plan.Instr.TheVariants.{SkipEmpty as skip_empty}
pub use Rattle.meaning.specs.declared.plan.Instr.TheVariants.{SkipFull as skip_full, SkipNot as skip_not, Does as does}
-- transition, source, trigger, guard, span first, span last, block start, block length
pub use Rattle.meaning.specs.declared.plan.Head.{Head}

-- states and events are their counts; the start block is the first so many instructions
pub record Plan : Type 0 where
  pub states : ℕ
  pub vars : List VarRow
  pub events : ℕ
  pub start_length : ℕ
  pub heads : List Head
  pub code : List Instr

-- ---- an instruction's four numbers, "unused ones 0"

-- "or -1"
unfoldable pub slot_number : Option ℕ → ℤ
slot_number None = negsuc 0
slot_number (Some d) = pos d

-- "7 SET, 8 ADD, 9 TAKE, 10 SEND, 11 TELL, each with its act's fields"
unfoldable pub act_numbers : Act → List ℤ
act_numbers (set_to v x) = pos 7 ∷ pos v ∷ x ∷ pos 0 ∷ []
act_numbers (add_to v x) = pos 8 ∷ pos v ∷ x ∷ pos 0 ∷ []
act_numbers (take_to v) = pos 9 ∷ pos v ∷ pos 0 ∷ pos 0 ∷ []
act_numbers (send e x) = pos 10 ∷ pos e ∷ x ∷ pos 0 ∷ []
act_numbers (tell x) = pos 11 ∷ x ∷ pos 0 ∷ pos 0 ∷ []

-- "1 IN s. 2 OUT s p. 3 SKIPOUT s n. 4 SKIPEMPTY s n. 5 SKIPFULL s n. 6 SKIPNOT s d n"
unfoldable pub instr_numbers : Instr → List ℤ
instr_numbers (go_in s) = pos 1 ∷ pos s ∷ pos 0 ∷ pos 0 ∷ []
instr_numbers (go_out s p) = pos 2 ∷ pos s ∷ slot_number p ∷ pos 0 ∷ []
instr_numbers (skip_out s n) = pos 3 ∷ pos s ∷ pos n ∷ pos 0 ∷ []
instr_numbers (skip_empty s n) = pos 4 ∷ pos s ∷ pos n ∷ pos 0 ∷ []
instr_numbers (skip_full s n) = pos 5 ∷ pos s ∷ pos n ∷ pos 0 ∷ []
instr_numbers (skip_not s d n) = pos 6 ∷ pos s ∷ pos d ∷ pos n ∷ []
instr_numbers (does x) = act_numbers x

-- ---- a head's ten numbers

-- "sign (0 none, 1 =, 2 <, 3 >)"
unfoldable pub sign_number : Sign → ℤ
sign_number equal = pos 1
sign_number less = pos 2
sign_number more = pos 3

-- "guard variable (-1 none), sign (0 none, ..), constant (0 if none)"
unfoldable pub guard_numbers : Guard → List ℤ
guard_numbers always = negsuc 0 ∷ pos 0 ∷ pos 0 ∷ []
guard_numbers (compares v g x) = pos v ∷ sign_number g ∷ x ∷ []

unfoldable pub head_numbers : Head → List ℤ
head_numbers h =
    pos h.transition ∷ pos h.source ∷ pos h.trigger ∷ guard_numbers h.guard
    ++ (pos h.first ∷ pos h.last ∷ pos h.start ∷ pos h.length ∷ [])

-- ---- the plan's numbers

-- "Six: states, variables, events, heads, instructions, start block length"
unfoldable pub six : Plan → List ℤ
six p =
    pos p.states ∷ pos (length p.vars)
    ∷ pos p.events ∷ pos (length p.heads) ∷ pos (length p.code) ∷ pos p.start_length ∷ []

-- "low, high, first for each variable"
unfoldable pub var_numbers : VarRow → List ℤ
var_numbers r = r.low ∷ r.high ∷ r.first ∷ []

-- "Then low, high, first for each variable. Then a head for each transition .. Then instructions of four numbers"
unfoldable pub plan_numbers : Plan → List ℤ
plan_numbers p = six p ++ (concat_map var_numbers p.vars ++ (concat_map head_numbers p.heads ++ concat_map instr_numbers p.code))

-- everything above, opened: for statements that compute
unfoldable pub plan_open : ℕ
unfolding slot_number act_numbers instr_numbers sign_number guard_numbers head_numbers six var_numbers plan_numbers
plan_open = 0
