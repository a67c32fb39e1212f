-- `run_block` walks over the instructions: at each, what is left of the block is still owed. Assumes nothing.
use mathlib.Core.Path.{◌≡◌, refl, ap, ◌∙◌}
use Prim.Native.Nat.{◌+◌, ◌*◌, ◌<◌}
use mathlib.Core.List.{List}
use lib.ListN.{length, get_or}
use lib.IntN.{ℤ}
use native.Mathlib.Omega.{arith}
use borrow.Author.Rules.{rules}
use Rattle.std.specs.Prelude.{Err}
use mir.Facts.{to_z-of_z}
use mir.Syntax.{w64}
use mir.Val.{Fits}
use Rattle.meaning.specs.WellFormed.{INSTR_ROW, counts_of, code_at, plan_by}
use Rattle.plan_choice.proofs.Facts.{counts_sized}
use Rattle.plan_code.specs.Code.{Row, instr_from}
use Rattle.plan_code.proofs.Named.{block_near, instr_whole, in_code, instr_is, instr_runs}
use Rattle.plan_code.proofs.Walk.{walking_begin, walking_end, walking_stop, standing_on, standing_past, block_by}
use Rattle.plan_code.proofs.run_block.Goals.{After-code_at-base, In_ok-done, In-loop-row}
use Rattle.plan_code.proofs.run_block.Goals as goal

pub code_at-base-requires : goal.code_at-base-requires
code_at-base-requires c = counts_sized c.requires.0.examined

ends : (c : After-code_at-base) → Fits w64 (c.code_at-base.result + (c.args.start + c.args.len) * INSTR_ROW)
ends c = omega (arith, block_near c.requires.0 c.code_at-base.ensures)

pub overflow_add-end : goal.overflow_add-end
overflow_add-end c = omega (arith, ends (goal.at.overflow_add-end c).After-code_at-base)

pub overflow_mul-end : goal.overflow_mul-end
overflow_mul-end c = omega (arith, ends (goal.at.overflow_mul-end c).After-code_at-base)

pub overflow_add-end-2 : goal.overflow_add-end-2
overflow_add-end-2 c = omega (arith, ends (goal.at.overflow_add-end-2 c).After-code_at-base)

pub overflow_mul-start : goal.overflow_mul-start
overflow_mul-start c = omega (arith, ends (goal.at.overflow_mul-start c).After-code_at-base)

pub overflow_add-base : goal.overflow_add-base
overflow_add-base c = omega (arith, ends (goal.at.overflow_add-base c).After-code_at-base)

-- where the rows of the plan begin
begins : (c : After-code_at-base) → c.code_at-base.result ≡ code_at (counts_of c.args.plan.now.numbers.now)
begins c = c.code_at-base.ensures ∙ ap code_at c.requires.0.examined.counted

pub pass_skips-row-requires : goal.pass_skips-row-requires
pass_skips-row-requires c =
    let b = begins (goal.at.pass_skips-row-requires c).After-code_at-base in
    record {
      k = c.args.plan.now.counts;
      start = c.args.start;
      len = c.args.len;
      i = c.args.start;
      block = c.requires.0;
      onward = omega arith;
      here = omega (arith, b);
      there = omega (arith, b);
    }

pub loop-row-init : goal.loop-row-init
loop-row-init c =
    standing_past (record { i = c.args.start; here = refl; walking = walking_begin c.requires.1 }) refl
    (begins (goal.at.loop-row-init c).After-code_at-base) c.pass_skips-row.ensures

-- ---- a turn
module _ (c : In-loop-row) where
  abbrev ns : List ℤ
  ns = c.args.plan.now.numbers.now

  within : c.loop-row.invariant.i < c.args.start + c.args.len
  within = omega (arith, c.loop-row.invariant.here, c.loop-row-test.true)

  its-code : c.loop-row.invariant.i < length (plan_by ns).code
  its-code = in_code c.requires.0 c.code_at-base.ensures _ c.loop-row.invariant.walking.onward within

  its-instr : get_or (plan_by ns).code c.loop-row.invariant.i (instr_from ns c.loop-row.row)
      ≡ instr_from ns c.loop-row.row
  its-instr =
      instr_is c.requires.0 c.code_at-base.ensures _ c.loop-row.invariant.walking.onward within
      (ap (instr_from ns) c.loop-row.invariant.here)

  its-row : Row ns c.loop-row.row
  its-row =
      let b = c.requires.0 in
      let p = c.code_at-base.ensures in
      let w = c.loop-row.invariant.walking.onward in
      record {
        formed = b.examined.formed;
        whole = omega (arith, c.loop-row.invariant.here, instr_whole b p _ w within);
        runs = instr_runs b p _ w within (ap (instr_from ns) c.loop-row.invariant.here);
      }

pub exec-requires : goal.exec-requires
exec-requires c = (its-row (goal.at.exec-requires c).In-loop-row, c.loop-row.invariant.walking.owes.fits)

pub returns-in_err-done : goal.returns-in_err-done
returns-in_err-done c =
    let i = (goal.at.returns-in_err-done c).In-loop-row in
    let a = c.args in
    let q : c.from_residual.result ≡ Err c.in_err-done.field-0.0 = search rules in
    rw q (block_by _ _ (plan_by a.plan.now.numbers.now).code _ a.start a.len refl
    (rw (to_z-of_z c.ranges.arg) at
    (walking_stop c.loop-row.invariant.walking (within i) (its-code i) (its-instr i) c.in_err-done.ensures)))

-- the next row begins at a place of 64 bits
further : (e : In_ok-done) → Fits w64 (e.loop-row.row + (1 + e.in_ok-done.done.over) * INSTR_ROW)
further e =
    omega (arith, block_near e.requires.0 e.code_at-base.ensures, e.loop-row-test.true, e.in_ok-done.ensures.near)

pub overflow_add-row-in-loop-row : goal.overflow_add-row-in-loop-row
overflow_add-row-in-loop-row c = omega (arith, further (goal.at.overflow_add-row-in-loop-row c).In_ok-done)

pub pass_skips-row-requires-then-done-ne0 : goal.pass_skips-row-requires-then-done-ne0
pass_skips-row-requires-then-done-ne0 c =
    let b = begins (goal.at.pass_skips-row-requires-then-done-ne0 c).After-code_at-base in
    record {
      k = c.args.plan.now.counts;
      start = c.args.start;
      len = c.args.len;
      i = c.loop-row.invariant.i + 1 + c.in_ok-done.done.over;
      block = c.requires.0;
      onward = omega (arith, c.loop-row.invariant.walking.onward);
      here = omega (arith, c.loop-row.invariant.here, b);
      there = omega (arith, b);
    }

pub loop-row-preserved-then-done-ne0 : goal.loop-row-preserved-then-done-ne0
loop-row-preserved-then-done-ne0 c =
    let i = (goal.at.loop-row-preserved-then-done-ne0 c).In-loop-row in
    standing_past (standing_on c.loop-row.invariant (within i) (its-code i) (its-instr i) c.in_ok-done.ensures) refl
    (begins (goal.at.loop-row-preserved-then-done-ne0 c).After-code_at-base) c.pass_skips-row-then-done-ne0.ensures

pub loop-row-smaller-then-done-ne0 : goal.loop-row-smaller-then-done-ne0
loop-row-smaller-then-done-ne0 c = omega (arith, c.loop-row-test.true, c.pass_skips-row-then-done-ne0.ensures.there)

pub loop-row-preserved : goal.loop-row-preserved
loop-row-preserved c =
    let i = (goal.at.loop-row-preserved c).In-loop-row in
    standing_on c.loop-row.invariant (within i) (its-code i) (its-instr i) c.in_ok-done.ensures

pub returns : goal.returns
returns c =
    let w = c.loop-row.invariant in
    block_by _ _ (plan_by c.args.plan.now.numbers.now).code _ c.args.start c.args.len refl
    (rw (to_z-of_z c.ranges.arg) at (walking_end w.walking (omega (arith, w.here, c.loop-row-test.false))))
