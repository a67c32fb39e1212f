-- `put_fields`: what is left from the entry on, put behind what was put, is the whole. Assumes nothing.
use mathlib.Core.Path.{refl, ◌∙◌}
use native.Mathlib.Omega.{arith}
use Rattle.numbers.proofs.Laws.{back32}
use Rattle.writer.proofs.LineLaws.{left_start, left_inside, next_inside, few_between, left_first, left_second, fits_more, left_then}
use Rattle.writer.proofs.LineLaws.{fits_last, left_last}
use borrow.Author.Rules.{rules}
use Rattle.writer.proofs.rows.put_fields.Goals as goal

pub loop-field-init : goal.loop-field-init
loop-field-init c = let s = c.requires in let w = s.near in (left_start _ _ _ _ _ _ c.begins-i.ensures.0 s, omega arith, refl)

pub entry_at-requires : goal.entry_at-requires
entry_at-requires c = left_inside _ _ _ _ _ _ c.loop-field.invariant.0

-- a field that ends its form
pub put_field-requires : goal.put_field-requires
put_field-requires c =
    let w = c.loop-field.invariant in
    let i = left_inside _ _ _ _ _ _ w.0 in (fits_last _ _ _ _ _ _ w.0 _ c.in-Last.ensures, omega arith)

pub returns-in-Last-clause-written : goal.returns-in-Last-clause-written
returns-in-Last-clause-written c = left_last _ _ _ _ _ _ c.loop-field.invariant.0 _ c.in-Last.ensures _ c.put_field.ensures.written

-- a field with more behind it
pub put_field-requires-in-More : goal.put_field-requires-in-More
put_field-requires-in-More c =
    let w = c.loop-field.invariant in
    let i = left_inside _ _ _ _ _ _ w.0 in (fits_more _ _ _ _ _ _ w.0 _ c.in-More.ensures, omega arith)

pub overflow_add-i : goal.overflow_add-i
overflow_add-i c = let i = left_inside _ _ _ _ _ _ c.loop-field.invariant.0 in omega arith

pub loop-field-smaller-in-More : goal.loop-field-smaller-in-More
loop-field-smaller-in-More c = let i = left_inside _ _ _ _ _ _ c.loop-field.invariant.0 in omega arith

pub loop-field-preserved-in-More : goal.loop-field-preserved-in-More
loop-field-preserved-in-More c =
    let w = c.loop-field.invariant in
    let i = left_inside _ _ _ _ _ _ w.0 in
    let d = c.width-at.ensures.1 in (
      left_then _ _ _ _ _ _ w.0 _ c.in-More.ensures _ c.put_field-in-More.ensures.written _ c.width-at.ensures.0,
      omega arith,
      search rules,
    )

-- a choice
pub overflow_add-i-in-Or : goal.overflow_add-i-in-Or
overflow_add-i-in-Or c = let i = left_inside _ _ _ _ _ _ c.loop-field.invariant.0 in omega arith

pub entry_at-requires-in-Or : goal.entry_at-requires-in-Or
entry_at-requires-in-Or c = next_inside _ _ _ _ _ _ c.loop-field.invariant.0 _ c.in-Or.ensures

pub overflow_add-i-then-not-told : goal.overflow_add-i-then-not-told
overflow_add-i-then-not-told c =
    let w = c.loop-field.invariant in
    let i = left_inside _ _ _ _ _ _ w.0 in
    let k = few_between _ _ _ _ _ _ w.0 _ c.in-Or.ensures in omega arith

pub loop-field-smaller-then-not-told : goal.loop-field-smaller-then-not-told
loop-field-smaller-then-not-told c = let i = left_inside _ _ _ _ _ _ c.loop-field.invariant.0 in omega arith

pub loop-field-preserved-then-not-told : goal.loop-field-preserved-then-not-told
loop-field-preserved-then-not-told c =
    let w = c.loop-field.invariant in
    let z = c.number_at in
    let i = left_inside _ _ _ _ _ _ w.0 in (
      left_second _ _ _ _ _ _ w.0 _ c.in-Or.ensures _ c.entry_at-in-Or.ensures _
          (back32 z.result z.type_inv ∙ z.ensures) _ c.told.ensures c.if-not-told.true,
      omega arith,
      w.2,
    )

pub loop-field-smaller : goal.loop-field-smaller
loop-field-smaller c = let i = left_inside _ _ _ _ _ _ c.loop-field.invariant.0 in omega arith

pub loop-field-preserved : goal.loop-field-preserved
loop-field-preserved c =
    let w = c.loop-field.invariant in
    let z = c.number_at in
    let i = left_inside _ _ _ _ _ _ w.0 in (
      left_first _ _ _ _ _ _ w.0 _ c.in-Or.ensures _ c.entry_at-in-Or.ensures _
          (back32 z.result z.type_inv ∙ z.ensures) _ c.told.ensures c.if-not-told.false,
      omega arith,
      w.2,
    )
