-- What 01, "The plan", asks of a well-formed plan, said of the plan as data in plain facts, clause by clause: its instructions by
-- blocks, its heads, its variables, the whole plan. That the test of the numbers then passes is in Ruled. Assumes nothing.
use Rattle.std.specs.Prelude.{Option, None, Some}
use mathlib.Core.Path.{◌≡◌}
use Prim.Native.Nat.{◌+◌, ◌<◌, ◌≤◌, ℕ}
use native.Mathlib.Omega.{arith}
use mathlib.Core.Bool.{true}
use mathlib.Core.List.{List, [], ◌++◌, ◌∷◌, map}
use lib.ListN.{length, length-append}
use Rattle.laws.specs.Facts.{Each}
use Rattle.laws.proofs.Value.{RowInRange}
use Rattle.meaning.specs.Lists.{concat_map}
use Rattle.meaning.specs.Plan.{Plan}
use Rattle.meaning.specs.Rules.{row_fits}
use Rattle.meaning.specs.declared.chart.Act.{Act}
use Rattle.meaning.specs.declared.chart.Act.TheVariants.{AddTo as add_to, Send as send, SetTo as set_to, TakeTo as take_to, Tell as tell}
use Rattle.meaning.specs.declared.chart.Guard.{Guard}
use Rattle.meaning.specs.declared.chart.Guard.TheVariants.{Always as always, Compares as compares}
use Rattle.meaning.specs.declared.chart.VarRow.{VarRow}
use Rattle.meaning.specs.declared.plan.Counts.{Counts}
use Rattle.meaning.specs.declared.plan.Head.{Head}
use Rattle.meaning.specs.declared.plan.Instr.{Instr}
use Rattle.meaning.specs.declared.plan.Instr.TheVariants.{Does as does, In as go_in, Out as go_out, SkipEmpty as skip_empty}
use Rattle.meaning.specs.declared.plan.Instr.TheVariants.{SkipFull as skip_full, SkipNot as skip_not, SkipOut as skip_out}
use Rattle.numbers.specs.Range.{in_range}
use Rattle.plan_laws.proofs.ReadBack.{counts}
use Rattle.sizes.specs.Sizes.{TRANSITIONS}

-- ---- instructions

-- "p may be -1"
abbrev pub SlotFits : Counts → Option ℕ → Type 0
SlotFits k None = Unit {0}
SlotFits k (Some p) = p < k.states

-- "variables and events named exist, .. a sent event is 1 or more, constants are in range"
abbrev pub ActFits : Counts → Act → Type 0
ActFits k (set_to v x) = (v < k.vars) × (in_range x ≡ true)
ActFits k (add_to v x) = (v < k.vars) × (in_range x ≡ true)
ActFits k (take_to v) = v < k.vars
ActFits k (send e x) = (1 ≤ e) × (e ≤ k.events) × (in_range x ≡ true)
ActFits k (tell x) = in_range x ≡ true

-- an instruction that so many of its block follow: "states .. named exist", "a skip .. stays within its block"
abbrev pub InstrFits : Counts → ℕ → Instr → Type 0
InstrFits k left (go_in s) = s < k.states
InstrFits k left (go_out s p) = (s < k.states) × SlotFits k p
InstrFits k left (skip_out s n) = (s < k.states) × (n ≤ left)
InstrFits k left (skip_empty s n) = (s < k.states) × (n ≤ left)
InstrFits k left (skip_full s n) = (s < k.states) × (n ≤ left)
InstrFits k left (skip_not s d n) = (s < k.states) × (d < k.states) × (n ≤ left)
InstrFits k left (does x) = ActFits k x

-- a block, or a piece of one whose skips stay within the piece
pub data Piece (k : Counts) : List Instr → Type 0 where
  no_piece : Piece k []
  one_instr : {i : Instr} {is : List Instr} → InstrFits k (length is) i → Piece k is → Piece k (i ∷ is)

-- a skip over no more than what follows it in its piece
module _ (k : Counts) (s n : ℕ) (is : List Instr) (l : s < k.states) (m : n ≤ length is) (p : Piece k is) where
  pub skip_out_piece : Piece k (skip_out s n ∷ is)
  skip_out_piece = one_instr {i = skip_out s n} (l, m) p

  pub skip_empty_piece : Piece k (skip_empty s n ∷ is)
  skip_empty_piece = one_instr {i = skip_empty s n} (l, m) p

  pub skip_full_piece : Piece k (skip_full s n ∷ is)
  skip_full_piece = one_instr {i = skip_full s n} (l, m) p

  pub skip_not_piece : (d : ℕ) → d < k.states → Piece k (skip_not s d n ∷ is)
  skip_not_piece d j = one_instr {i = skip_not s d n} (l, j, m) p

-- what stays within a piece stays within a longer one
instr_wider : (k : Counts) (m n : ℕ) → m ≤ n → (i : Instr) → InstrFits k m i → InstrFits k n i
instr_wider k m n l (go_in s) h = h
instr_wider k m n l (go_out s p) h = h
instr_wider k m n l (skip_out s j) h = (h.0, omega (arith, h.1))
instr_wider k m n l (skip_empty s j) h = (h.0, omega (arith, h.1))
instr_wider k m n l (skip_full s j) h = (h.0, omega (arith, h.1))
instr_wider k m n l (skip_not s d j) h = (h.0, h.1, omega (arith, h.2))
instr_wider k m n l (does x) h = h

-- pieces join
pub piece_joined : (k : Counts) (is js : List Instr) → Piece k is → Piece k js → Piece k (is ++ js)
piece_joined k [] js no_piece q = q
piece_joined k (i ∷ is) js (one_instr p ps) q =
    one_instr (instr_wider k (length is) (length (is ++ js)) (omega (arith, length-append is js)) i p) (piece_joined k is js ps q)

pub pieces_joined : {A : Type 0} (k : Counts) (f : A → List Instr) (P : A → Type 0) → ((x : A) → P x → Piece k (f x))
    → (xs : List A) → Each P xs → Piece k (concat_map f xs)
unfolding concat_map
pieces_joined k f P h [] Each.none_left = no_piece
pieces_joined k f P h (x ∷ xs) (Each.one_more p ps) = piece_joined k (f x) (concat_map f xs) (h x p) (pieces_joined k f P h xs ps)

-- ---- heads

-- "the guard is -1, 0, 0 or a variable, 1 to 3 and a number in range"
abbrev pub GuardFits : Counts → Guard → Type 0
GuardFits k always = Unit {0}
GuardFits k (compares v g x) = (v < k.vars) × (in_range x ≡ true)

-- "the transition is 0 to 127, the trigger 0 to the events, source and span are states with first ≤ last"
pub record HeadFits (k : Counts) (h : Head) : Type 0 where
  pub transition : h.transition < TRANSITIONS
  pub trigger : h.trigger ≤ k.events
  pub source : h.source < k.states
  pub first : h.first < k.states
  pub last : h.last < k.states
  pub in_order : h.first ≤ h.last
  pub guard : GuardFits k h.guard

-- "the blocks fill the instructions": from a place on, block after block, to the last of n
pub data Fills (n : ℕ) : ℕ → List Head → Type 0 where
  to_the_end : Fills n n []
  next_block : {at : ℕ} {h : Head} {hs : List Head} → h.start ≡ at → Fills n (at + h.length) hs → Fills n at (h ∷ hs)

-- ---- the whole plan

-- "each variable row keeps R5 and the number range"
pub record VarFits (r : VarRow) : Type 0 where
  pub in_order : row_fits r ≡ true
  pub in_range : RowInRange r

pub record Fits (p : Plan) : Type 0 where
  pub two : 2 ≤ p.states
  pub vars : Each VarFits p.vars
  pub heads : Each (HeadFits (counts p)) p.heads
  pub fills : Fills (length p.code) p.start_length p.heads
  -- the instructions are the blocks, whose lengths are those that the plan names
  pub blocks : List (List Instr)
  pub code : p.code ≡ concat_map (λ b. b) blocks
  pub lengths : p.start_length ∷ map (λ h. h.length) p.heads ≡ map length blocks
  pub pieces : Each (Piece (counts p)) blocks
