-- What running the instructions of a plan asks and says
-- (01, "The plan"): what an instruction names, what one instruction gives over what is
-- lent, and a block of a plan that was examined. Assumes nothing.
use Rattle.std.specs.Prelude.{◌≡◌, ℕ, ◌+◌, ◌-◌, ◌*◌, ◌<◌, ◌≤◌, Bool, true, List, length, get_or, take, drop, ℤ, pos, Result, Ok, Err, IfOk}
use Rattle.sizes.specs.Sizes.{STATES, INSTRUCTIONS}
use Rattle.numbers.specs.Reference.{ref, NOWHERE}
use Rattle.meaning.specs.declared.chart.Act.{Act}
use Rattle.meaning.specs.declared.chart.Act.TheVariants.{SetTo as set_to, AddTo as add_to, TakeTo as take_to, Send as send, Tell as tell}
use Rattle.meaning.specs.declared.chart.VarRow.{VarRow}
use Rattle.meaning.specs.Answers.{number_by}
use Rattle.meaning.specs.declared.answers.Refusal.{Refusal}
use Rattle.meaning.specs.declared.State.{State}
use Rattle.meaning.specs.declared.plan.Counts.{Counts}
use Rattle.meaning.specs.declared.plan.Instr.{Instr}
use Rattle.meaning.specs.declared.plan.Instr.TheVariants.{In as go_in, Out as go_out, SkipOut as skip_out, SkipEmpty as skip_empty}
use Rattle.meaning.specs.declared.plan.Instr.TheVariants.{SkipFull as skip_full, SkipNot as skip_not, Does as does}
use Rattle.meaning.specs.Steps.{Res, ok, refuse, Step}
use Rattle.meaning.specs.Widget.{Ctx}
use Rattle.meaning.specs.Machine.{Mach, passing, exec_now, run_block}
use Rattle.meaning.specs.WellFormed.{INSTR_ROW, counts_of, code_at, instr_by, plan_by, left_after_each, code_fits, well_formed}
use Rattle.widget.specs.Acts.{Below}
use Rattle.widget.specs.View.{ctx}
use Rattle.plan_choice.specs.Heads.{Examined}
use Rattle.plan_code.specs.declared.Moved.{Moved}

-- ---- what an instruction names is there

-- an act of a plan with so many variables
abbrev pub Acts : ℕ → Act → Type 0
Acts vars (set_to v x) = v < vars
Acts vars (add_to v x) = v < vars
Acts vars (take_to v) = v < vars
Acts vars (send e x) = e < NOWHERE
Acts vars (tell x) = Unit {0}

-- an instruction of such a plan
abbrev pub Runs : ℕ → Instr → Type 0
Runs vars (go_in s) = s < STATES
Runs vars (go_out s p) = (s < STATES) × Below STATES p
Runs vars (skip_out s n) = (s < STATES) × (n ≤ INSTRUCTIONS)
Runs vars (skip_empty s n) = (s < STATES) × (n ≤ INSTRUCTIONS)
Runs vars (skip_full s n) = (s < STATES) × (n ≤ INSTRUCTIONS)
Runs vars (skip_not s d n) = (s < STATES) × (d < STATES) × (n ≤ INSTRUCTIONS)
Runs vars (does x) = Acts vars x

-- ---- the row of an instruction

-- the instruction whose row begins at a place
abbrev pub instr_from : List ℤ → ℕ → Instr
instr_from ns at = instr_by (take INSTR_ROW (drop at ns))

-- its row is there, and what it names is there, in a plan that was examined
pub record Row (ns : List ℤ) (at : ℕ) : Type 0 where
  pub formed : well_formed ns ≡ true
  pub whole : at + INSTR_ROW ≤ length ns
  pub runs : Runs (counts_of ns).vars (instr_from ns at)

-- a number that is there and names something
abbrev pub Names : List ℤ → ℕ → Type 0
Names ns i = (i < length ns) × (ref (get_or ns i (pos 0)) < NOWHERE)

-- a variable of a plan that was examined
abbrev pub Varied : List ℤ → ℕ → Type 0
Varied ns v = (well_formed ns ≡ true) × (v < (counts_of ns).vars)

-- ---- one instruction

-- an effect goes on to the next instruction, or is refused
abbrev pub onward_of : Result ℕ Refusal → Result Moved Refusal
onward_of (Ok at) = Ok (record { at = at; over = 0 })
onward_of (Err e) = Err e

-- what its function's result says, over what is lent after it: so many instructions passed over, or the refusal met
unfoldable pub moved : Result Moved Refusal → State → List ℤ → Res Mach
moved (Ok m) u trace = ok (passing m.over (ctx u trace m.at))
moved (Err e) u trace = refuse (number_by e)

-- the promise of running one instruction
pub record Execs (vs : List VarRow) (a : ℤ) (i : Instr) (u : State) (trace : List ℤ) (at : ℕ) (r : Result Moved Refusal)
    (u' : State) (trace' : List ℤ) : Type 0 where
  pub does : moved r u' trace' ≡ exec_now vs a i (ctx u trace at)
  pub fits : IfOk r (λ m. m.at ≤ length trace')
  pub kept : length trace' ≡ length trace
  pub near : IfOk r (λ m. m.over ≤ INSTRUCTIONS)

-- ---- a block

-- instruction i
abbrev pub instr_at : List ℤ → ℕ → ℕ → Instr
instr_at ns base i = instr_from ns (base + i * INSTR_ROW)

-- so many instructions from a place on are a block of the plan
pub record Block (ns : List ℤ) (k : Counts) (start len : ℕ) : Type 0 where
  pub examined : Examined ns k
  pub within : start + len ≤ k.instructions
  pub fits : code_fits k (left_after_each len) (drop (code_at k + start * INSTR_ROW) ns) ≡ true

-- what running it is
abbrev pub block_of : List ℤ → ℤ → ℕ → ℕ → Step Ctx
block_of ns a start len = run_block (plan_by ns).vars a (take len (drop start (plan_by ns).code))

-- ---- the rest of a block

-- where the row of instruction i begins
abbrev pub row_of : List ℤ → ℕ → ℕ
row_of ns i = code_at (counts_of ns) + i * INSTR_ROW

-- from one place up to another stand the rows of a block, from some instruction on
pub record Rest (ns : List ℤ) (from end : ℕ) : Type 0 where
  pub k : Counts
  pub start : ℕ
  pub len : ℕ
  pub i : ℕ
  pub block : Block ns k start len
  pub onward : start ≤ i
  pub here : from ≡ row_of ns i
  pub there : end ≡ row_of ns (start + len)

-- where these states are active, what is run from one instruction on is what is run from another on, each up to the last
abbrev pub Same : List Instr → ℕ → List Bool → ℕ → ℕ → Type 0
Same code last active i j = (vs : List VarRow) (a : ℤ) (k : Ctx) → k.state.active ≡ active
    → run_block vs a (take (last - i) (drop i code)) k ≡ run_block vs a (take (last - j) (drop j code)) k

-- from one row's place on what is run up to the end is what is run from another row's place on, further on
pub record Passed (ns : List ℤ) (end from : ℕ) (active : List Bool) (to : ℕ) : Type 0 where
  pub over : ℕ
  pub there : to ≡ from + over * INSTR_ROW
  pub same : (i last : ℕ) → from ≡ row_of ns i → end ≡ row_of ns last → Same (plan_by ns).code last active i (i + over)
