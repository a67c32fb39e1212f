-- Numbers and instructions put into a lent slice from a place on, and the place after them; a place that the slice does not have is
-- passed over. Then which numbers an instruction has room for, and the room that places have. Assumes nothing.
use Rattle.std.specs.Prelude.{Option, None, Some}
use Rattle.std.specs.Prelude.{ℕ, ◌+◌, ◌*◌, ◌<◌, List, length, ℤ}
use Rattle.std.proofs.lemmas.List.Edits.{sets}
use Rattle.numbers.specs.Reference.{NOWHERE}
use Rattle.meaning.specs.Lists.{concat_map}
use Rattle.meaning.specs.declared.chart.Act.{Act}
use Rattle.meaning.specs.declared.chart.Act.TheVariants.{SetTo as set_to, AddTo as add_to, TakeTo as take_to, Send as send, Tell as tell}
use Rattle.meaning.specs.declared.plan.Instr.{Instr}
use Rattle.meaning.specs.declared.plan.Instr.TheVariants.{In as go_in, Out as go_out, SkipOut as skip_out, SkipEmpty as skip_empty}
use Rattle.meaning.specs.declared.plan.Instr.TheVariants.{SkipFull as skip_full, SkipNot as skip_not, Does as does}
use Rattle.meaning.specs.Plan.{instr_numbers}

pub record Pen : Type 0 where
  pub buf : List ℤ
  pub at : ℕ

abbrev pub pen : List ℤ → ℕ → Pen
pen l n = record { buf = l; at = n }

-- numbers from the pen's place on
unfoldable pub puts : List ℤ → Pen → Pen
puts ns p = pen (sets p.buf p.at ns) (p.at + length ns)

-- instructions, four numbers each
unfoldable pub emits : List Instr → Pen → Pen
emits is p = puts (concat_map instr_numbers is) p

-- the numbers of an instruction are 32-bit ones
abbrev pub SmallPlace : Option ℕ → Type 0
SmallPlace None = Unit {0}
SmallPlace (Some s) = s < NOWHERE

abbrev pub SmallAct : Act → Type 0
SmallAct (set_to v x) = v < NOWHERE
SmallAct (add_to v x) = v < NOWHERE
SmallAct (take_to v) = v < NOWHERE
SmallAct (send e x) = e < NOWHERE
SmallAct (tell x) = Unit {0}

abbrev pub Small : Instr → Type 0
Small (go_in s) = s < NOWHERE
Small (go_out s p) = (s < NOWHERE) × SmallPlace p
Small (skip_out s n) = (s < NOWHERE) × (n < NOWHERE)
Small (skip_empty s n) = (s < NOWHERE) × (n < NOWHERE)
Small (skip_full s n) = (s < NOWHERE) × (n < NOWHERE)
Small (skip_not s d n) = (s < NOWHERE) × (d < NOWHERE) × (n < NOWHERE)
Small (does x) = SmallAct x

-- the place after these instructions is a 32-bit number
abbrev pub Room : List Instr → ℕ → Type 0
Room is at = at + 4 * length is < NOWHERE
