-- A plan read back from its numbers is the plan, whatever follows it in the slice (01, "The plan"): the rows of each kind, the six
-- counts, then the plan. Only the counts must keep their sizes: every field of a head or an instruction reads back. Assumes nothing.
use Rattle.std.specs.Prelude.{Option, None, Some}
use mathlib.Core.Path.{◌∙◌, ◌≡◌, ap, refl, sym}
use Prim.Native.Nat.{◌*◌, ◌≤◌, suc, ℕ}
use mathlib.Core.List.{List, [], ◌++◌, ◌∷◌, append_assoc, map}
use lib.ListN.{drop, length}
use lib.Seq.{drop-drop}
use lib.IntN.{pos, ℤ}
use borrow.Author.Tests.{le-leb}
use Rattle.meaning.specs.Lists.{concat_map}
use Rattle.meaning.specs.Plan.{Plan, act_numbers, guard_numbers, head_numbers, instr_numbers, plan_numbers, sign_number, six, slot_number}
use Rattle.meaning.specs.Plan.{var_numbers}
use Rattle.meaning.specs.Value.{VAR_ROW, size_by, var_by}
use Rattle.meaning.specs.WellFormed.{HEAD_ROW, INSTR_ROW, SIX, code_at, code_rows, counts_of, head_by, head_guard_by, head_rows, heads_at}
use Rattle.meaning.specs.WellFormed.{instr_act_by, instr_by, instr_of, plan_by, var_rows}
use Rattle.meaning.specs.declared.chart.Act.TheVariants.{AddTo as add_to, Send as send, SetTo as set_to, TakeTo as take_to, Tell as tell}
use Rattle.meaning.specs.declared.chart.Guard.{Guard}
use Rattle.meaning.specs.declared.chart.Guard.TheVariants.{Always as always, Compares as compares}
use Rattle.meaning.specs.declared.chart.Sign.TheVariants.{Equal as equal, Less as less, More as more}
use Rattle.meaning.specs.declared.chart.VarRow.{VarRow}
use Rattle.meaning.specs.declared.plan.Counts.{Counts}
use Rattle.meaning.specs.declared.plan.Head.{Head}
use Rattle.meaning.specs.declared.plan.Instr.{Instr}
use Rattle.meaning.specs.declared.plan.Instr.TheVariants.{Does as does, In as go_in, Out as go_out, SkipEmpty as skip_empty}
use Rattle.meaning.specs.declared.plan.Instr.TheVariants.{SkipFull as skip_full, SkipNot as skip_not, SkipOut as skip_out}
use Rattle.numbers.specs.Place.{place_of as as_slot}
use Rattle.plan_laws.proofs.Rows.{map_back, rows_back, rows_past}
use Rattle.sizes.specs.Sizes.{EVENTS, INSTRUCTIONS, STATES, TRANSITIONS, VARIABLES}

-- ---- rows

pub var_back : (r : VarRow) → var_by (var_numbers r) ≡ r
unfolding var_by var_numbers
var_back r = refl

pub var_long : (r : VarRow) → length (var_numbers r) ≡ VAR_ROW
unfolding var_numbers
var_long r = refl

guard_back : (t s e f l a n : ℕ) (g : Guard)
    → head_by (pos t ∷ pos s ∷ pos e ∷ guard_numbers g ++ (pos f ∷ pos l ∷ pos a ∷ pos n ∷ []))
    ≡ record { transition = t; source = s; trigger = e; guard = g; first = f; last = l; start = a; length = n }
unfolding head_by head_guard_by guard_numbers sign_number
guard_back t s e f l a n always = refl
guard_back t s e f l a n (compares v equal x) = refl
guard_back t s e f l a n (compares v less x) = refl
guard_back t s e f l a n (compares v more x) = refl

pub head_back : (h : Head) → head_by (head_numbers h) ≡ h
unfolding head_numbers
head_back h = guard_back h.transition h.source h.trigger h.first h.last h.start h.length h.guard

guard_long : (g : Guard) (l : List ℤ) → length (guard_numbers g ++ l) ≡ suc (suc (suc (length l)))
unfolding guard_numbers
guard_long always l = refl
guard_long (compares v g x) l = refl

pub head_long : (h : Head) → length (head_numbers h) ≡ HEAD_ROW
unfolding head_numbers
head_long h = ap (λ n. suc (suc (suc n))) (guard_long h.guard (pos h.first ∷ pos h.last ∷ pos h.start ∷ pos h.length ∷ []))

slot_back : (p : Option ℕ) → as_slot (slot_number p) ≡ p
unfolding slot_number
slot_back None = refl
slot_back (Some d) = refl

pub instr_back : (i : Instr) → instr_by (instr_numbers i) ≡ i
unfolding instr_by instr_of instr_act_by instr_numbers act_numbers
instr_back (go_in s) = refl
instr_back (go_out s p) = ap (go_out s) (slot_back p)
instr_back (skip_out s n) = refl
instr_back (skip_empty s n) = refl
instr_back (skip_full s n) = refl
instr_back (skip_not s d n) = refl
instr_back (does (set_to v x)) = refl
instr_back (does (add_to v x)) = refl
instr_back (does (take_to v)) = refl
instr_back (does (send e x)) = refl
instr_back (does (tell x)) = refl

pub instr_long : (i : Instr) → length (instr_numbers i) ≡ INSTR_ROW
unfolding instr_numbers act_numbers
instr_long (go_in s) = refl
instr_long (go_out s p) = refl
instr_long (skip_out s n) = refl
instr_long (skip_empty s n) = refl
instr_long (skip_full s n) = refl
instr_long (skip_not s d n) = refl
instr_long (does (set_to v x)) = refl
instr_long (does (add_to v x)) = refl
instr_long (does (take_to v)) = refl
instr_long (does (send e x)) = refl
instr_long (does (tell x)) = refl

-- ---- the counts

-- a plan whose numbers can be read: its counts keep their sizes
pub record Sayable (p : Plan) : Type 0 where
  pub states : p.states ≤ STATES
  pub vars : length p.vars ≤ VARIABLES
  pub events : p.events ≤ EVENTS
  pub heads : length p.heads ≤ TRANSITIONS
  pub code : length p.code ≤ INSTRUCTIONS

-- the counts of a plan as data
unfoldable pub counts : Plan → Counts
counts p = record {
  states = p.states;
  vars = length p.vars;
  events = p.events;
  heads = length p.heads;
  instructions = length p.code;
  start = p.start_length;
}

size_back : (most n : ℕ) → n ≤ most → size_by most (pos n) ≡ n
unfolding size_by
size_back most n h = rw (le-leb n most h)

module _ (p : Plan) (rest : List ℤ) where
  -- the rows that follow the six counts
  tail : List ℤ
  tail = concat_map var_numbers p.vars ++ (concat_map head_numbers p.heads ++ (concat_map instr_numbers p.code ++ rest))

  tail_is : (v h i : List ℤ) → (v ++ (h ++ i)) ++ rest ≡ v ++ (h ++ (i ++ rest))
  tail_is v h i = append_assoc v (h ++ i) rest ∙ ap (λ l. v ++ l) (append_assoc h i rest)

  after_six : drop SIX (plan_numbers p ++ rest) ≡ tail
  unfolding plan_numbers six tail
  after_six = tail_is (concat_map var_numbers p.vars) (concat_map head_numbers p.heads) (concat_map instr_numbers p.code)

  after_vars :
      drop (heads_at (counts p)) (plan_numbers p ++ rest)
      ≡ concat_map head_numbers p.heads ++ (concat_map instr_numbers p.code ++ rest)
  unfolding heads_at counts tail
  after_vars =
      sym (drop-drop (length p.vars * VAR_ROW) SIX (plan_numbers p ++ rest)) ∙ ap (drop (length p.vars * VAR_ROW)) after_six
      ∙ rows_past var_numbers VAR_ROW var_long p.vars _

  pub after_heads : drop (code_at (counts p)) (plan_numbers p ++ rest) ≡ concat_map instr_numbers p.code ++ rest
  unfolding code_at counts
  after_heads =
      sym (drop-drop (length p.heads * HEAD_ROW) (heads_at (counts p)) (plan_numbers p ++ rest))
      ∙ ap (drop (length p.heads * HEAD_ROW)) after_vars ∙ rows_past head_numbers HEAD_ROW head_long p.heads _

  pub var_rows_back : var_rows (plan_numbers p ++ rest) (counts p) ≡ map var_numbers p.vars
  unfolding var_rows counts tail
  var_rows_back = rw after_six (rows_back var_numbers VAR_ROW var_long p.vars _)

  pub head_rows_back : head_rows (plan_numbers p ++ rest) (counts p) ≡ map head_numbers p.heads
  unfolding head_rows counts
  head_rows_back = rw after_vars (rows_back head_numbers HEAD_ROW head_long p.heads _)

  pub code_rows_back : code_rows (plan_numbers p ++ rest) (counts p) ≡ map instr_numbers p.code
  unfolding code_rows counts
  code_rows_back = rw after_heads (rows_back instr_numbers INSTR_ROW instr_long p.code rest)

  pub counts_back : Sayable p → counts_of (plan_numbers p ++ rest) ≡ counts p
  unfolding counts_of counts plan_numbers six
  counts_back h =
      rw (
        size_back STATES p.states h.states,
        size_back VARIABLES (length p.vars) h.vars,
        size_back EVENTS p.events h.events,
        size_back TRANSITIONS (length p.heads) h.heads,
        size_back INSTRUCTIONS (length p.code) h.code,
      )

  -- ---- the plan

  pub read_back : Sayable p → plan_by (plan_numbers p ++ rest) ≡ p
  unfolding plan_by counts
  read_back h =
      rw (
        counts_back h,
        var_rows_back,
        head_rows_back,
        code_rows_back,
        map_back var_numbers var_by var_back p.vars,
        map_back head_numbers head_by head_back p.heads,
        map_back instr_numbers instr_by instr_back p.code,
      )
