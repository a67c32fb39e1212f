-- A plan that fits is well formed: each test of 01's definition passes on the plan's numbers, whatever follows them. In the order of
-- the definition: counts, variables, heads, blocks, instructions, the plan. Assumes nothing.
use Rattle.std.specs.Prelude.{None, Some}
use mathlib.Core.Path.{◌∙◌, ◌≡◌, ap, refl}
use Prim.Native.Nat.{◌+◌, ◌≤◌, suc, ℕ}
use native.Mathlib.Omega.{arith}
use mathlib.Core.Bool.{Bool, ◌&&◌, false, false≢true, true}
use mathlib.Core.List.{List, [], ◌++◌, ◌∷◌, append_assoc, map}
use lib.ListN.{drop, length, length-append}
use lib.Seq.{drop_at}
use lib.IntN.{pos, ℤ}
use borrow.Author.Tests.{eq-eqb, le-leb, lt-ltb}
use Rattle.laws.proofs.Lists.{and_both}
use Rattle.laws.specs.Facts.{Each, none_left, one_more}
use Rattle.laws.proofs.Trace.{concat_map_joined}
use Rattle.meaning.specs.Lists.{concat_map, every}
use Rattle.meaning.specs.Plan.{Plan, act_numbers, guard_numbers, head_numbers, instr_numbers, plan_numbers, sign_number, six, slot_number}
use Rattle.meaning.specs.Plan.{var_numbers}
use Rattle.meaning.specs.Value.{VAR_ROW, num, var_by, statable}
use Rattle.meaning.specs.WellFormed.{HEAD_ROW, INSTR_ROW, all_blocks_fill, blocks_fill, code_at, code_fits, counts_keep, counts_of}
use Rattle.meaning.specs.WellFormed.{operand_fits, shape_fits, head_fits, head_guard_fits, head_rows, heads_at, instr_fits, is_whole}
use Rattle.meaning.specs.WellFormed.{left_after_each, left_in_blocks, plan_end, rows_well_formed, span_fits, var_keeps, var_rows}
use Rattle.meaning.specs.WellFormed.{well_formed}
use Rattle.meaning.specs.declared.chart.Act.TheVariants.{AddTo as add_to, Send as send, SetTo as set_to, TakeTo as take_to, Tell as tell}
use Rattle.meaning.specs.declared.chart.Guard.{Guard}
use Rattle.meaning.specs.declared.chart.Guard.TheVariants.{Always as always, Compares as compares}
use Rattle.meaning.specs.declared.chart.Sign.TheVariants.{Equal as equal, Less as less, More as more}
use Rattle.meaning.specs.declared.chart.VarRow.{VarRow}
use Rattle.meaning.specs.declared.plan.Counts.{Counts}
use Rattle.meaning.specs.declared.plan.Head.{Head}
use Rattle.meaning.specs.declared.plan.Instr.{Instr}
use Rattle.meaning.specs.declared.plan.Instr.TheVariants.{Does as does, In as go_in, Out as go_out, SkipEmpty as skip_empty}
use Rattle.meaning.specs.declared.plan.Instr.TheVariants.{SkipFull as skip_full, SkipNot as skip_not, SkipOut as skip_out}
use Rattle.numbers.specs.Reference.{ref}
use Rattle.plan_laws.proofs.Fits.{Fills, Fits, GuardFits, HeadFits, InstrFits, Piece, VarFits, next_block, no_piece, one_instr}
use Rattle.plan_laws.proofs.Fits.{to_the_end}
use Rattle.plan_laws.proofs.ReadBack.{Sayable, after_heads, counts, counts_back, head_long, head_rows_back, instr_long, var_long}
use Rattle.plan_laws.proofs.ReadBack.{var_rows_back}
use Rattle.plan_laws.proofs.Rows.{rows_long}
use Rattle.sizes.specs.Sizes.{EVENTS, INSTRUCTIONS, STATES, TRANSITIONS, VARIABLES}

-- what each element's row passes, every row passes
each_row : {A B : Type 0} (p : B → Bool) (f : A → B) (P : A → Type 0) → ((x : A) → P x → p (f x) ≡ true) → (xs : List A) → Each P xs
    → every p (map f xs) ≡ true
unfolding every
each_row p f P h [] none_left = refl
each_row p f P h (x ∷ xs) (one_more q qs) = and_both (p (f x)) (every p (map f xs)) (h x q) (each_row p f P h xs qs)

if_passed : (b x : Bool) → b ≡ true → elim b [ true ↦ x | false ↦ false ] ≡ x
if_passed true x e = refl
if_passed false x e = absurd (false≢true e)

-- ---- counts

-- a plan's numbers end where its counts say
pub plan_long : (p : Plan) → length (plan_numbers p) ≡ plan_end (counts p)
unfolding plan_numbers six plan_end code_at heads_at counts
plan_long p =
    ap (λ n. suc (suc (suc (suc (suc (suc n))))))
    (length-append (concat_map var_numbers p.vars) _
    ∙ ap (λ n. length (concat_map var_numbers p.vars) + n) (length-append (concat_map head_numbers p.heads) _))
    ∙ rw (
      rows_long var_numbers VAR_ROW var_long p.vars,
      rows_long head_numbers HEAD_ROW head_long p.heads,
      rows_long instr_numbers INSTR_ROW instr_long p.code,
    ) (omega arith)

module _ (p : Plan) (rest : List ℤ) where
  counts_pass : Sayable p → 2 ≤ p.states → counts_keep (plan_numbers p ++ rest) ≡ true
  unfolding counts_keep plan_numbers six
  counts_pass h two =
      rw (
        le-leb 2 p.states two,
        le-leb p.states STATES h.states,
        le-leb 0 (length p.vars) (omega arith),
        le-leb (length p.vars) VARIABLES h.vars,
        le-leb 0 p.events (omega arith),
        le-leb p.events EVENTS h.events,
        le-leb 0 (length p.heads) (omega arith),
        le-leb (length p.heads) TRANSITIONS h.heads,
        le-leb 0 (length p.code) (omega arith),
        le-leb (length p.code) INSTRUCTIONS h.code,
      )

  whole : is_whole (plan_numbers p ++ rest) (counts p) ≡ true
  unfolding is_whole
  whole = le-leb (plan_end (counts p)) (length (plan_numbers p ++ rest)) (omega (arith, plan_long p, length-append (plan_numbers p) rest))

-- ---- variables

var_passes : (r : VarRow) → VarFits r → var_keeps (var_numbers r) ≡ true
unfolding var_keeps var_by var_numbers statable
var_passes r h = rw (h.in_order, h.in_range.low, h.in_range.high, h.in_range.first)

-- ---- heads

guard_passes : (k : Counts) (g : Guard) (a b c : ℤ) (l : List ℤ) → GuardFits k g
    → head_guard_fits k (num (a ∷ b ∷ c ∷ guard_numbers g ++ l) 3) (num (a ∷ b ∷ c ∷ guard_numbers g ++ l) 4)
    (num (a ∷ b ∷ c ∷ guard_numbers g ++ l) 5) ≡ true
unfolding head_guard_fits guard_numbers sign_number
guard_passes k always a b c l h = refl
guard_passes k (compares v equal x) a b c l h = rw (lt-ltb v k.vars h.0, h.1)
guard_passes k (compares v less x) a b c l h = rw (lt-ltb v k.vars h.0, h.1)
guard_passes k (compares v more x) a b c l h = rw (lt-ltb v k.vars h.0, h.1)

-- what stands after the guard
past_guard : (g : Guard) (a b c : ℤ) (l : List ℤ) (i : ℕ)
    → num (a ∷ b ∷ c ∷ guard_numbers g ++ l) (suc (suc (suc (suc (suc (suc i)))))) ≡ num l i
unfolding guard_numbers
past_guard always a b c l i = refl
past_guard (compares v g x) a b c l i = refl

module _ (h : Head) where
  ends : List ℤ
  ends = pos h.first ∷ pos h.last ∷ pos h.start ∷ pos h.length ∷ []

  head_end : (i : ℕ) → num (head_numbers h) (suc (suc (suc (suc (suc (suc i)))))) ≡ num ends i
  unfolding head_numbers ends
  head_end i = past_guard h.guard (pos h.transition) (pos h.source) (pos h.trigger) ends i

  span_passes : (k : Counts) → HeadFits k h → span_fits k (num (head_numbers h) 1) (num (head_numbers h) 6) (num (head_numbers h) 7) ≡ true
  unfolding span_fits ends head_numbers
  span_passes k f =
      rw (
        head_end 0,
        head_end 1,
        lt-ltb h.source k.states f.source,
        lt-ltb h.first k.states f.first,
        lt-ltb h.last k.states f.last,
        le-leb h.first h.last f.in_order,
      )

  head_passes : (k : Counts) → HeadFits k h → head_fits k (head_numbers h) ≡ true
  unfolding head_fits head_numbers ends
  head_passes k f =
      rw (
        span_passes k f,
        guard_passes k h.guard (pos h.transition) (pos h.source) (pos h.trigger) ends f.guard,
        lt-ltb h.transition TRANSITIONS f.transition,
        le-leb 0 h.trigger (omega arith),
        le-leb h.trigger k.events f.trigger,
      )

-- ---- blocks

fills_pass : (n at : ℕ) (hs : List Head) → Fills n at hs → blocks_fill n at (map head_numbers hs) ≡ true
unfolding blocks_fill ends
fills_pass n at [] to_the_end = eq-eqb n n refl
fills_pass n at (h ∷ hs) (next_block e fs) =
    rw (head_end h 2, head_end h 3, eq-eqb h.start at e, le-leb 0 h.length (omega arith)) (fills_pass n (at + h.length) hs fs)

lengths_back : (hs : List Head) → map (λ row. ref (num row 9)) (map head_numbers hs) ≡ map (λ h. h.length) hs
unfolding ends
lengths_back [] = refl
lengths_back (h ∷ hs) = rw (head_end h 3, lengths_back hs)

-- ---- instructions

instr_passes : (k : Counts) (left : ℕ) (i : Instr) (rest : List ℤ) → InstrFits k left i
    → instr_fits k left (instr_numbers i ++ rest) ≡ true
unfolding instr_fits shape_fits operand_fits instr_numbers act_numbers slot_number
instr_passes k left (go_in s) rest h = rw (lt-ltb s k.states h)
instr_passes k left (go_out s None) rest h = rw (lt-ltb s k.states h.0)
instr_passes k left (go_out s (Some p)) rest h = rw (lt-ltb s k.states h.0, lt-ltb p k.states h.1)
instr_passes k left (skip_out s n) rest h = rw (lt-ltb s k.states h.0, le-leb 0 n (omega arith), le-leb n left h.1)
instr_passes k left (skip_empty s n) rest h = rw (lt-ltb s k.states h.0, le-leb 0 n (omega arith), le-leb n left h.1)
instr_passes k left (skip_full s n) rest h = rw (lt-ltb s k.states h.0, le-leb 0 n (omega arith), le-leb n left h.1)
instr_passes k left (skip_not s d n) rest h =
    rw (lt-ltb s k.states h.0, lt-ltb d k.states h.1, le-leb 0 n (omega arith), le-leb n left h.2)
instr_passes k left (does (set_to v x)) rest h = rw (lt-ltb v k.vars h.0, h.1)
instr_passes k left (does (add_to v x)) rest h = rw (lt-ltb v k.vars h.0, h.1)
instr_passes k left (does (take_to v)) rest h = rw (lt-ltb v k.vars h)
instr_passes k left (does (send e x)) rest h = rw (le-leb 1 e h.0, le-leb e k.events h.1, h.2)
instr_passes k left (does (tell x)) rest h = rw h

-- an instruction that passes: the next is looked at
next_instr : (k : Counts) (left : ℕ) (lefts : List ℕ) (ns : List ℤ) → instr_fits k left ns ≡ true
    → code_fits k (left ∷ lefts) ns ≡ code_fits k lefts (drop INSTR_ROW ns)
unfolding code_fits
next_instr k left lefts ns e = if_passed (instr_fits k left ns) (code_fits k lefts (drop INSTR_ROW ns)) e

-- a block passes, and then what follows it is looked at
piece_passes : (k : Counts) (is : List Instr) (lefts : List ℕ) (rest : List ℤ) → Piece k is
    → code_fits k (left_after_each (length is) ++ lefts) (concat_map instr_numbers is ++ rest) ≡ code_fits k lefts rest
unfolding left_after_each concat_map
piece_passes k [] lefts rest no_piece = refl
piece_passes k (i ∷ is) lefts rest (one_instr p ps) =
    let more = concat_map instr_numbers is ++ rest in
    rw (append_assoc (instr_numbers i) (concat_map instr_numbers is) rest)
    (next_instr k (length is) (left_after_each (length is) ++ lefts) (instr_numbers i ++ more) (instr_passes k (length is) i more p)
    ∙ ap (code_fits k (left_after_each (length is) ++ lefts)) (drop_at (instr_numbers i) more INSTR_ROW (instr_long i))
    ∙ piece_passes k is lefts rest ps)

pieces_pass : (k : Counts) (bs : List (List Instr)) (rest : List ℤ) → Each (Piece k) bs
    → code_fits k (concat_map left_after_each (map length bs)) (concat_map instr_numbers (concat_map (λ b. b) bs) ++ rest) ≡ true
unfolding concat_map code_fits
pieces_pass k [] rest none_left = refl
pieces_pass k (b ∷ bs) rest (one_more p ps) =
    let more = concat_map instr_numbers (concat_map (λ x. x) bs) in
    rw (concat_map_joined instr_numbers b (concat_map (λ x. x) bs), append_assoc (concat_map instr_numbers b) more rest)
    (piece_passes k b (concat_map left_after_each (map length bs)) (more ++ rest) p ∙ pieces_pass k bs rest ps)

-- ---- the plan

well_formed_by : (ns : List ℤ) (k : Counts) → counts_of ns ≡ k → counts_keep ns ≡ true → is_whole ns k ≡ true → rows_well_formed ns k ≡ true
    → well_formed ns ≡ true
unfolding well_formed
well_formed_by ns k e a b r =
    if_passed (counts_keep ns && is_whole ns (counts_of ns)) (rows_well_formed ns (counts_of ns)) (rw (e, a, b)) ∙ rw e r

module _ (p : Plan) (rest : List ℤ) (f : Fits p) where
  blocks_pass : all_blocks_fill (plan_numbers p ++ rest) (counts p) ≡ true
  unfolding all_blocks_fill plan_numbers six counts
  blocks_pass =
      rw (head_rows_back p rest, le-leb 0 p.start_length (omega arith))
      (fills_pass (length p.code) p.start_length p.heads f.fills)

  lefts_back : left_in_blocks (plan_numbers p ++ rest) (counts p) ≡ concat_map left_after_each (map length f.blocks)
  unfolding left_in_blocks counts
  lefts_back =
      ap (λ l. concat_map left_after_each (p.start_length ∷ l)) (rw (head_rows_back p rest) (lengths_back p.heads))
      ∙ ap (concat_map left_after_each) f.lengths

  code_passes :
      code_fits (counts p) (left_in_blocks (plan_numbers p ++ rest) (counts p)) (drop (code_at (counts p)) (plan_numbers p ++ rest)) ≡ true
  code_passes =
      rw (lefts_back, after_heads p rest)
      (ap (λ l. code_fits (counts p) (concat_map left_after_each (map length f.blocks)) (concat_map instr_numbers l ++ rest)) f.code
      ∙ pieces_pass (counts p) f.blocks rest f.pieces)

  rows_pass : rows_well_formed (plan_numbers p ++ rest) (counts p) ≡ true
  unfolding rows_well_formed
  rows_pass =
      if_passed
      (every var_keeps (var_rows ns (counts p))
      && (every (head_fits (counts p)) (head_rows ns (counts p)) && all_blocks_fill ns (counts p)))
      (code_fits (counts p) (left_in_blocks ns (counts p)) (drop (code_at (counts p)) ns))
      (rw (
        var_rows_back p rest,
        head_rows_back p rest,
        each_row var_keeps var_numbers VarFits var_passes p.vars f.vars,
        each_row (head_fits (counts p)) head_numbers (HeadFits (counts p)) (λ h. head_passes h (counts p)) p.heads f.heads,
        blocks_pass,
      ))
      ∙ code_passes
    where
      ns : List ℤ
      ns = plan_numbers p ++ rest

  -- a plan that fits is well formed
  pub fits_well_formed : Sayable p → well_formed (plan_numbers p ++ rest) ≡ true
  fits_well_formed h =
      well_formed_by (plan_numbers p ++ rest) (counts p) (counts_back p rest h) (counts_pass p rest h f.two) (whole p rest) rows_pass
