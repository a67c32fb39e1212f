-- `instr_fits` goes by the code, and tests the three numbers as its form says. Assumes nothing.
use Rattle.std.specs.Prelude.{Some}
use mathlib.Core.Path.{◌≡◌, refl, sym, ap, ◌∙◌}
use mathlib.Core.Bool.{Bool, ◌&&◌}
use lib.ListN.{drop}
use lib.Dec.{eqb}
use lib.IntN.{ℤ, pos}
use lib.Signed.{mag}
use native.Mathlib.Omega.{arith}
use Prim.Native.Nat.{◌<◌, ◌^◌}
use mir.Syntax.{w32}
use mir.Val.{to_z, of_z}
use Rattle.numbers.specs.Equal.{eq_z}
use Rattle.numbers.proofs.Laws.{back32, test_bits}
use Rattle.meaning.specs.WellFormed.{Operand, a_state, a_parent, a_variable, an_event, a_constant, a_skip, unused}
use Rattle.meaning.specs.WellFormed.{shape, operand_fits, instr_fits}
use Rattle.plan_rows.specs.declared.code.Code.{Code}
use Rattle.plan_rows.specs.declared.code.Code.TheVariants.{In, Out, SkipOut, SkipEmpty, SkipFull, SkipNot, Set, Add, Take, Send, Tell}
use Rattle.plan_rows.specs.Codes.{code_of}
use Rattle.chart_rows.proofs.Said.{said_of}
use Rattle.examiner.proofs.RowTests.{instr_wrong, instr_read, shape_by, shaped}
use Rattle.examiner.proofs.instructions.instr_fits.Goals.{After-read-z}
use Rattle.examiner.proofs.instructions.instr_fits.Goals as goal

-- a test against 0 of a number that was handed on
nought : (z : ℤ) → mag z < 2 ^ 31 → eqb (of_z w32 z) 0 ≡ eq_z (to_z w32 (of_z w32 z)) (pos 0)
nought z f = test_bits z (pos 0) f (omega arith) ∙ ap (λ x. eq_z x (pos 0)) (sym (back32 z f))

-- the code is n, and the three numbers that were read have been tested as its form says
tested : (c : After-read-z) (s : Code) (f g h : Operand) {p q o r : Bool} → shape_by (Some s) ≡ shape f g h
    → c.of.result ≡ Some s
    → p ≡ operand_fits c.args.k c.args.left f
    (to_z w32 (of_z w32 c.read-x.result))
    → q ≡ operand_fits c.args.k c.args.left g
    (to_z w32 (of_z w32 c.read-y.result))
    → o ≡ operand_fits c.args.k c.args.left h
    (to_z w32 (of_z w32 c.read-z.result))
    → r ≡ p && (q && o)
    → r ≡ instr_fits c.args.k c.args.left
    (drop c.args.at c.args.plan.now)
tested c s f g h t e u v w all =
    let a = c.args in
    let x = c.read-x in
    let y = c.read-y in
    let z = c.read-z in
    instr_read a.k a.plan.now a.at a.left (c.named.result) f g h (shaped c.named.result ∙ ap shape_by (sym c.of.ensures ∙ e) ∙ t) (sym c.named.ensures)
    (said_of (operand_fits a.k a.left f) x.type_inv x.ensures u) (said_of (operand_fits a.k a.left g) y.type_inv y.ensures v)
    (said_of (operand_fits a.k a.left h) z.type_inv z.ensures w) all

pub returns-in-In : goal.returns-in-In
unfolding operand_fits
returns-in-In c =
    let m = c.before.before in
    tested m.before In a_state unused unused refl (c.in-Some.is ∙ ap Some c.in-In.is)
    c.one_of.ensures (nought c.read-y.result c.read-y.type_inv)
    (nought c.read-z.result c.read-z.type_inv) c.all_three.ensures

pub returns-in-Out : goal.returns-in-Out
unfolding operand_fits
returns-in-Out c =
    let m = c.before.before.before in
    tested m.before Out a_state a_parent unused refl (c.in-Some.is ∙ ap Some c.in-Out.is)
    c.one_of-in-Out.ensures c.parent_fits.ensures
    (nought c.read-z.result c.read-z.type_inv) c.all_three-in-Out.ensures

pub returns-in-SkipOut : goal.returns-in-SkipOut
unfolding operand_fits
returns-in-SkipOut c =
    let m = c.before.before.before in
    tested m.before SkipOut a_state a_skip unused refl (c.in-Some.is ∙ ap Some c.in-SkipOut.is)
    c.one_of-in-SkipOut.ensures c.skip_fits.ensures
    (nought c.read-z.result c.read-z.type_inv) c.all_three-in-SkipOut.ensures

pub returns-in-SkipEmpty : goal.returns-in-SkipEmpty
unfolding operand_fits
returns-in-SkipEmpty c =
    let m = c.before.before.before in
    tested m.before SkipEmpty a_state a_skip unused refl (c.in-Some.is ∙ ap Some c.in-SkipEmpty.is)
    c.one_of-in-SkipEmpty.ensures c.skip_fits-in-SkipEmpty.ensures
    (nought c.read-z.result c.read-z.type_inv) c.all_three-in-SkipEmpty.ensures

pub returns-in-SkipFull : goal.returns-in-SkipFull
unfolding operand_fits
returns-in-SkipFull c =
    let m = c.before.before.before in
    tested m.before SkipFull a_state a_skip unused refl (c.in-Some.is ∙ ap Some c.in-SkipFull.is)
    c.one_of-in-SkipFull.ensures c.skip_fits-in-SkipFull.ensures
    (nought c.read-z.result c.read-z.type_inv) c.all_three-in-SkipFull.ensures

pub returns-in-SkipNot : goal.returns-in-SkipNot
unfolding operand_fits
returns-in-SkipNot c =
    let m = c.before.before.before.before in
    tested m.before SkipNot a_state a_state a_skip refl (c.in-Some.is ∙ ap Some c.in-SkipNot.is)
    c.one_of-in-SkipNot.ensures c.one_of-in-SkipNot-2.ensures
    c.skip_fits-in-SkipNot.ensures c.all_three-in-SkipNot.ensures

pub returns-in-Set : goal.returns-in-Set
unfolding operand_fits
returns-in-Set c =
    let m = c.before.before.before in
    tested m.before Set a_variable a_constant unused refl (c.in-Some.is ∙ ap Some c.in-Set.is)
    c.one_of-in-Set.ensures c.in_range.ensures
    (nought c.read-z.result c.read-z.type_inv) c.all_three-in-Set.ensures

pub returns-in-Add : goal.returns-in-Add
unfolding operand_fits
returns-in-Add c =
    let m = c.before.before.before in
    tested m.before Add a_variable a_constant unused refl (c.in-Some.is ∙ ap Some c.in-Add.is)
    c.one_of-in-Add.ensures c.in_range-in-Add.ensures
    (nought c.read-z.result c.read-z.type_inv) c.all_three-in-Add.ensures

pub returns-in-Take : goal.returns-in-Take
unfolding operand_fits
returns-in-Take c =
    let m = c.before.before in
    tested m.before Take a_variable unused unused refl (c.in-Some.is ∙ ap Some c.in-Take.is)
    c.one_of-in-Take.ensures (nought c.read-y.result c.read-y.type_inv)
    (nought c.read-z.result c.read-z.type_inv) c.all_three-in-Take.ensures

pub returns-in-Send : goal.returns-in-Send
unfolding operand_fits
returns-in-Send c =
    let m = c.before.before.before in
    tested m.before Send an_event a_constant unused refl (c.in-Some.is ∙ ap Some c.in-Send.is)
    c.count_fits.ensures c.in_range-in-Send.ensures
    (nought c.read-z.result c.read-z.type_inv) c.all_three-in-Send.ensures

pub returns-in-Tell : goal.returns-in-Tell
unfolding operand_fits
returns-in-Tell c =
    let m = c.before.before in
    tested m.before Tell a_constant unused unused refl (c.in-Some.is ∙ ap Some c.in-Tell.is)
    c.in_range-in-Tell.ensures (nought c.read-y.result c.read-y.type_inv)
    (nought c.read-z.result c.read-z.type_inv) c.all_three-in-Tell.ensures

pub returns-in_default : goal.returns-in_default
returns-in_default c =
    sym (instr_wrong c.args.k c.args.plan.now c.args.at c.args.left
    (ap shape_by (sym c.in_default.is ∙ c.of.ensures ∙ ap code_of c.named.ensures) ∙ sym (shaped _)))
