-- The tests of a row, number by number, against code that reads the numbers one by one from the place b where the row begins.
-- Assumes nothing.
use Rattle.std.specs.Prelude.{Option, None, Some}
use Prim.Native.Nat.{ℕ, zero, suc, ◌+◌}
use mathlib.Core.Path.{◌≡◌, refl, ◌∙◌}
use mathlib.Core.Bool.{Bool, false, ◌&&◌}
use mathlib.Core.List.{List}
use native.Mathlib.Omega.{arith}
use lib.IntN.{ℤ, pos}
use lib.Signed.{le_z}
use lib.ListN.{get_or, take, drop}
use lib.Seq.{get_or-drop}
use mir.Facts.{to_z-of_z}
use mir.Syntax.{w32}
use mir.Val.{SFits, to_z, of_z}
use Rattle.sizes.specs.Sizes.{TRANSITIONS}
use Rattle.numbers.specs.Range.{within, in_range}
use Rattle.numbers.specs.Reference.{ref}
use Rattle.meaning.specs.declared.chart.VarRow.{VarRow}
use Rattle.meaning.specs.declared.plan.Counts.{Counts}
use Rattle.meaning.specs.Rules.{row_fits}
use Rattle.meaning.specs.Value.{count_fits, var_by, statable}
use Rattle.meaning.specs.WellFormed.{HEAD_ROW, var_keeps, one_of, span_fits, head_guard_fits, head_fits}
use Rattle.meaning.specs.WellFormed.{Operand, a_state, a_parent, a_variable, an_event, a_constant, a_skip, unused}
use Rattle.meaning.specs.WellFormed.{Shape, SHAPES, no_shape, shape, operand_fits, shape_fits, instr_fits}
use Rattle.chart_rows.proofs.Rows.{num_at}
use Rattle.plan_rows.specs.declared.code.Code.{Code}
use Rattle.plan_rows.specs.declared.code.Code.TheVariants.{In, Out, SkipOut, SkipEmpty, SkipFull, SkipNot, Set, Add, Take, Send, Tell}
use Rattle.plan_rows.specs.Codes.{code_of}

-- the order of two numbers that were handed over as their bits
pub order_said : {x y : ℤ} → SFits w32 x → SFits w32 y → le_z (to_z w32 (of_z w32 x)) (to_z w32 (of_z w32 y)) ≡ le_z x y
order_said f g = rw (to_z-of_z f, to_z-of_z g)

pub var_read : (r : VarRow) (l : List ℤ) → r ≡ var_by l
    → var_keeps l ≡ within r.low r.first r.high && (in_range r.low && (in_range r.high && in_range r.first))
unfolding var_keeps row_fits statable var_by within
var_read r l e = rw e

module _ (k : Counts) (ns : List ℤ) (b : ℕ) where
  pub head_read : head_fits k (take HEAD_ROW (drop b ns))
      ≡ one_of TRANSITIONS (get_or ns (b + 0) (pos 0))
      && (count_fits 0 k.events (get_or ns (b + 2) (pos 0))
      && (span_fits k (get_or ns (b + 1) (pos 0)) (get_or ns (b + 6) (pos 0)) (get_or ns (b + 7) (pos 0))
      && head_guard_fits k (get_or ns (b + 3) (pos 0)) (get_or ns (b + 4) (pos 0)) (get_or ns (b + 5) (pos 0))))
  unfolding head_fits
  head_read =
      rw (
        num_at HEAD_ROW b ns 0 (omega arith),
        num_at HEAD_ROW b ns 2 (omega arith),
        num_at HEAD_ROW b ns 1 (omega arith),
        num_at HEAD_ROW b ns 6 (omega arith),
        num_at HEAD_ROW b ns 7 (omega arith),
        num_at HEAD_ROW b ns 3 (omega arith),
        num_at HEAD_ROW b ns 4 (omega arith),
        num_at HEAD_ROW b ns 5 (omega arith),
      )

  -- a code that is none
  pub instr_wrong : (left : ℕ) → no_shape ≡ get_or SHAPES (ref (get_or ns (b + 0) (pos 0))) no_shape → instr_fits k left (drop b ns) ≡ false
  unfolding instr_fits shape_fits
  instr_wrong left e = rw (get_or-drop b ns 0 (pos 0), ← e)

  -- the code n, whose three numbers were tested
  pub instr_read : (left n : ℕ) (f g h : Operand) {p q s r : Bool} → get_or SHAPES n no_shape ≡ shape f g h
      → ref (get_or ns (b + 0) (pos 0)) ≡ n
      → p ≡ operand_fits k left f (get_or ns (b + 1) (pos 0))
      → q ≡ operand_fits k left g (get_or ns (b + 2) (pos 0))
      → s ≡ operand_fits k left h (get_or ns (b + 3) (pos 0))
      → r ≡ p && (q && s) → r ≡ instr_fits k left (drop b ns)
  unfolding instr_fits shape_fits
  instr_read left n f g h t e u v w o =
      o ∙ rw (u, v, w, get_or-drop b ns 0 (pos 0), e, t, get_or-drop b ns 1 (pos 0), get_or-drop b ns 2 (pos 0), get_or-drop b ns 3 (pos 0))

-- the form of each code, and of a number that is none
abbrev pub shape_by : Option Code → Shape
shape_by None = no_shape
shape_by (Some In) = shape a_state unused unused
shape_by (Some Out) = shape a_state a_parent unused
shape_by (Some SkipOut) = shape a_state a_skip unused
shape_by (Some SkipEmpty) = shape a_state a_skip unused
shape_by (Some SkipFull) = shape a_state a_skip unused
shape_by (Some SkipNot) = shape a_state a_state a_skip
shape_by (Some Set) = shape a_variable a_constant unused
shape_by (Some Add) = shape a_variable a_constant unused
shape_by (Some Take) = shape a_variable unused unused
shape_by (Some Send) = shape an_event a_constant unused
shape_by (Some Tell) = shape a_constant unused unused

pub shaped : (n : ℕ) → get_or SHAPES n no_shape ≡ shape_by (code_of n)
unfolding code_of
shaped zero = refl
shaped (suc zero) = refl
shaped (suc (suc zero)) = refl
shaped (suc (suc (suc zero))) = refl
shaped (suc (suc (suc (suc zero)))) = refl
shaped (suc (suc (suc (suc (suc zero))))) = refl
shaped (suc (suc (suc (suc (suc (suc zero)))))) = refl
shaped (suc (suc (suc (suc (suc (suc (suc zero))))))) = refl
shaped (suc (suc (suc (suc (suc (suc (suc (suc zero)))))))) = refl
shaped (suc (suc (suc (suc (suc (suc (suc (suc (suc zero))))))))) = refl
shaped (suc (suc (suc (suc (suc (suc (suc (suc (suc (suc zero)))))))))) = refl
shaped (suc (suc (suc (suc (suc (suc (suc (suc (suc (suc (suc zero))))))))))) = refl
shaped (suc (suc (suc (suc (suc (suc (suc (suc (suc (suc (suc (suc n)))))))))))) = refl
