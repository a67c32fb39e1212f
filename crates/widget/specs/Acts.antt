-- What the functions of the acts promise and ask (01, "One reaction"): a variable's new value, a sent event, and that an act names what
-- there is. Assumes nothing.
use Rattle.std.specs.Prelude.{Option, None, Some}
use Rattle.std.specs.Prelude.{ℕ, ◌<◌, ℤ, pos, ◌+ℤ◌}
use Rattle.sizes.specs.Sizes.{VARIABLES}
use Rattle.numbers.specs.Reference.{NOWHERE}
use Rattle.meaning.specs.Steps.{Step, ◌then◌, look}
use Rattle.meaning.specs.declared.chart.VarRow.{VarRow}
use Rattle.meaning.specs.declared.chart.Act.{Act}
use Rattle.meaning.specs.declared.chart.Act.TheVariants.{SetTo as set_to, AddTo as add_to, TakeTo as take_to, Send as send, Tell as tell}
use Rattle.meaning.specs.Widget.{Ctx, emit, change, set_value, value_at}
use Rattle.meaning.specs.declared.Entry.{Entry}
use Rattle.meaning.specs.declared.Entry.TheVariants.{Taken as taken, Left as left, Entered as entered, Changed as changed}
use Rattle.meaning.specs.declared.Entry.TheVariants.{Sent as sent, Told as told}
use Rattle.meaning.specs.Effects.{assign, enqueue}

-- the variable v takes the value x: "written before the effect goes on"
unfoldable pub stored : ℕ → ℤ → Step Ctx
stored v x = emit (changed v x) then change (set_value v x)

-- the variable v, whose row is r, takes the sum of its value and x
unfoldable pub adding : VarRow → ℕ → ℤ → Step Ctx
adding r v x = look (λ k. assign r v (value_at k.state v +ℤ x))

-- the event e is sent with the argument x: "at a send 11 before 9"
unfoldable pub sending : ℕ → ℤ → Step Ctx
sending e x = emit (sent e x) then enqueue (pos e) x

-- the numbers of an entry that name something have an i32
abbrev pub Small : Entry → Type 0
Small (taken t) = t < NOWHERE
Small (left s) = s < NOWHERE
Small (entered s) = s < NOWHERE
Small (changed v x) = v < NOWHERE
Small (sent e x) = e < NOWHERE
Small (told x) = Unit {0}

-- R7: "variables and events of actions exist"; of an event only that it is a number at all
abbrev pub Named : Act → Type 0
Named (set_to v x) = v < VARIABLES
Named (add_to v x) = v < VARIABLES
Named (take_to v) = v < VARIABLES
Named (send e x) = e < NOWHERE
Named (tell x) = Unit {0}

-- a slot's owner, where there is one, is a place of the arrays
abbrev pub Below : ℕ → Option ℕ → Type 0
Below n None = Unit {0}
Below n (Some p) = p < n
