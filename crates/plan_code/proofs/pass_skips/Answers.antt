-- `pass_skips` is a walk over SKIPOUTs: at each turn what is run from here on is what was to be run. Assumes nothing.
use mathlib.Core.Path.{◌≡◌, sym, ap, ◌∙◌}
use Prim.Native.Nat.{ℕ, ◌+◌, ◌*◌, ◌≤◌, ◌<◌}
use native.Mathlib.Omega.{arith}
use lib.ListN.{get_or}
use lib.IntN.{ℤ, pos}
use mir.Syntax.{w64}
use mir.Val.{Fits}
use Rattle.sizes.specs.Sizes.{INSTRUCTIONS, STATES}
use Rattle.numbers.specs.Reference.{ref}
use Rattle.numbers.proofs.Laws.{same_bits}
use Rattle.meaning.specs.declared.plan.Instr.TheVariants.{SkipOut as skip_out}
use Rattle.meaning.specs.WellFormed.{INSTR_ROW}
use Rattle.plan_code.specs.Code.{Row, instr_from}
use Rattle.plan_code.proofs.Reading.{is_skip_out, skip_out_names}
use Rattle.plan_code.proofs.Skipping.{rest_near, here_row, passed_begin, passed_active, passed_idle}
use Rattle.plan_code.proofs.pass_skips.Goals.{Else-read-ne-SKIPOUT, In-loop-row}
use Rattle.plan_code.proofs.pass_skips.Goals as goal

-- the row is there
its-row : (c : In-loop-row) → Row c.args.plan.now c.loop-row.row
its-row c = here_row c.requires c.loop-row.invariant c.loop-row-test.true

-- a row that is passed over ends at a place of 64 bits
further : (c : In-loop-row) (n : ℕ) → n ≤ INSTRUCTIONS → Fits w64 (c.loop-row.row + (1 + n) * INSTR_ROW)
further c n l = omega (arith, rest_near c.requires, c.loop-row-test.true, l)

pub read-requires : goal.read-requires
read-requires c = omega (arith, (its-row (goal.at.read-requires c).In-loop-row).whole)

pub returns-then-read-ne-SKIPOUT : goal.returns-then-read-ne-SKIPOUT
returns-then-read-ne-SKIPOUT c = c.loop-row.invariant

-- a number of its row
abbrev nth : Else-read-ne-SKIPOUT → ℕ → ℤ
nth x j = get_or x.args.plan.now (x.loop-row.row + j) (pos 0)

code : (x : Else-read-ne-SKIPOUT) → ref (nth x 0) ≡ 3
code x =
    ap ref (sym x.read.ensures ∙ same_bits x.read.result (pos 3) x.read.type_inv (omega arith) x.if-read-ne-SKIPOUT.false)

asks : (x : Else-read-ne-SKIPOUT) → ref (nth x 1) < STATES
asks x = (skip_out_names (here_row x.requires x.loop-row.invariant x.loop-row-test.true) (code x)).0

over : (x : Else-read-ne-SKIPOUT) → ref (nth x 2) ≤ INSTRUCTIONS
over x = (skip_out_names (here_row x.requires x.loop-row.invariant x.loop-row-test.true) (code x)).1

pub known-s-requires : goal.known-s-requires
known-s-requires c = (omega (arith, (its-row (goal.at.known-s-requires c).In-loop-row).whole), omega (arith, asks (goal.at.known-s-requires c).Else-read-ne-SKIPOUT))

pub bounds-active-s : goal.bounds-active-s
bounds-active-s c = omega (arith, asks (goal.at.bounds-active-s c).Else-read-ne-SKIPOUT, c.known-s.ensures)

-- its row says so
says : (x : Else-read-ne-SKIPOUT) {s : ℕ} → s ≡ ref (nth x 1) → instr_from x.args.plan.now x.loop-row.row ≡ skip_out s (ref (nth x 2))
says x e = is_skip_out (here_row x.requires x.loop-row.invariant x.loop-row-test.true) e (code x)

pub returns-then-active-s : goal.returns-then-active-s
returns-then-active-s c =
    passed_active c.requires c.loop-row.invariant c.loop-row-test.true (says (goal.at.returns-then-active-s c).Else-read-ne-SKIPOUT c.known-s.ensures) c.if-active-s.true

pub known-requires : goal.known-requires
known-requires c =
    (omega (arith, (its-row (goal.at.known-requires c).In-loop-row).whole), omega (arith, over (goal.at.known-requires c).Else-read-ne-SKIPOUT))

-- it passes over no more than a plan has
near : (x : Else-read-ne-SKIPOUT) {n : ℕ} → n ≡ ref (nth x 2) → n ≤ INSTRUCTIONS
near x e = omega (arith, over x, e)

pub overflow_add-row-in-loop-row-3 : goal.overflow_add-row-in-loop-row-3
overflow_add-row-in-loop-row-3 c = omega (arith, near (goal.at.overflow_add-row-in-loop-row-3 c).Else-read-ne-SKIPOUT c.known.ensures)

pub overflow_mul-row : goal.overflow_mul-row
overflow_mul-row c = omega (arith, near (goal.at.overflow_mul-row c).Else-read-ne-SKIPOUT c.known.ensures)

pub overflow_add-row-in-loop-row-4 : goal.overflow_add-row-in-loop-row-4
overflow_add-row-in-loop-row-4 c = further (goal.at.overflow_add-row-in-loop-row-4 c).In-loop-row c.known.result (near (goal.at.overflow_add-row-in-loop-row-4 c).Else-read-ne-SKIPOUT c.known.ensures)

pub loop-row-smaller : goal.loop-row-smaller
loop-row-smaller c = omega (arith, c.loop-row-test.true)

pub loop-row-preserved : goal.loop-row-preserved
loop-row-preserved c =
    passed_idle c.requires c.loop-row.invariant c.loop-row-test.true (says (goal.at.loop-row-preserved c).Else-read-ne-SKIPOUT c.known-s.ensures) c.known.ensures c.if-active-s.false

pub loop-row-init : goal.loop-row-init
loop-row-init c = passed_begin

pub overflow_add-row : goal.overflow_add-row
overflow_add-row c = omega (arith, further (goal.at.overflow_add-row c).In-loop-row 0 (omega arith))

pub overflow_add-row-in-loop-row : goal.overflow_add-row-in-loop-row
overflow_add-row-in-loop-row c = omega (arith, further (goal.at.overflow_add-row-in-loop-row c).In-loop-row 0 (omega arith))

pub overflow_add-result : goal.overflow_add-result
overflow_add-result c = further (goal.at.overflow_add-result c).In-loop-row 0 (omega arith)

pub overflow_add-row-in-loop-row-2 : goal.overflow_add-row-in-loop-row-2
overflow_add-row-in-loop-row-2 c = omega (arith, further (goal.at.overflow_add-row-in-loop-row-2 c).In-loop-row 0 (omega arith))

pub returns : goal.returns
returns c = c.loop-row.invariant
