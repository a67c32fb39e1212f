-- `line_by` reads by the form of its entry: each way out is a law of the files beside. The measure of the recursion is the entries that are
-- left. Assumes nothing.
use Rattle.std.proofs.Common.{ap, ◌∙◌, ◌≡◌, sym, arith, Err, rules}
use Rattle.std.proofs.lemmas.Result.{err_from_is_err_and}
use Rattle.meaning.specs.Line.{mark_of}
use Rattle.meaning.specs.declared.Fault.TheVariants.{Wrong, Beyond}
use Rattle.forms.proofs.TableLaws.{or_inside}
use Rattle.lines.proofs.LineLaws.{none_of, some_of, wrong_of}
use Rattle.lines.proofs.LineLaws.{past_taken, first_taken, second_taken, ends_early, field_wrong, beyond_not, beyond_then}
use Rattle.lines.proofs.LineLaws.{more_not, more_put, goes_on, last_not, last_put}
use Rattle.lines.proofs.+line_by.Goals as goal

pub returns-then-i-ge-ENTRIES : goal.returns-then-i-ge-ENTRIES
returns-then-i-ge-ENTRIES t c = past_taken _ _ _ _ _ c.if-i-ge-ENTRIES.true

-- a choice
pub returns-then-ne : goal.returns-then-ne
returns-then-ne t c =
    let h : c.line_by-first.result ≡ Err Wrong → ⊥ = search rules in
    first_taken _ _ _ _ _ c.if-i-ge-ENTRIES.false _ _ c.in-Or.ensures _ c.line_by-first.ensures (λ m. h (wrong_of _ m))

pub overflow_add-i-in-Or-2 : goal.overflow_add-i-in-Or-2
overflow_add-i-in-Or-2 t c = let k = (or_inside _ _ c.if-i-ge-ENTRIES.false (sym c.in-Or.ensures)).2 in omega arith

pub returns-else-ne : goal.returns-else-ne
returns-else-ne t c =
    let h : c.line_by-first.result ≡ Err Wrong = search rules in
    second_taken _ _ _ _ _ c.if-i-ge-ENTRIES.false _ _ c.in-Or.ensures _ c.line_by-first.ensures _ _ (ap mark_of h) c.line_by.ensures

-- a field that ends its form
pub returns-then-is_some : goal.returns-then-is_some
returns-then-is_some t c =
    goes_on _ _ c.if-i-ge-ENTRIES.false _ _ _ _ c.cut_at-part.ensures _ _ c.in-Last.ensures (some_of _ c.if-is_some.ensures)

pub returns-in_err-said-in-Last : goal.returns-in_err-said-in-Last
returns-in_err-said-in-Last t c =
    let p = err_from_is_err_and c.from_residual.result c.from_residual.ensures.1 in
    rw (p.1, p.2) (last_not _ _ c.if-i-ge-ENTRIES.false _ _ _ _ c.cut_at-part.ensures _ _ c.in-Last.ensures _
    c.read_field.ensures (none_of _ c.if-is_some.ensures) _ c.in_err-said-in-Last.was)

pub returns-in_ok-said-in-Last : goal.returns-in_ok-said-in-Last
returns-in_ok-said-in-Last t c =
    last_put _ _ c.if-i-ge-ENTRIES.false _ _ _ _ c.cut_at-part.ensures _ _ c.in-Last.ensures _
    c.read_field.ensures (none_of _ c.if-is_some.ensures) _ _ c.in_ok-said-in-Last.was c.put_said.ensures

-- a field with more behind it
pub returns-in_default : goal.returns-in_default
returns-in_default t c = ends_early _ _ c.if-i-ge-ENTRIES.false _ _ _ _ c.cut_at-part-in-More.ensures _ _ c.in-More.ensures c.in_default.is

pub returns-in-Wrong : goal.returns-in-Wrong
returns-in-Wrong t c =
    let w : c.read_field-in-More.result ≡ Err Wrong = c.in-Err.is ∙ ap Err c.in-Wrong.is in
    rw c.in-Wrong.is (field_wrong _ _ c.if-i-ge-ENTRIES.false _ _ _ _ c.cut_at-part-in-More.ensures _ _ c.in-More.ensures _
    c.read_field-in-More.ensures _ c.in-Some.is w)

pub returns-in_err-line_by-in-Beyond : goal.returns-in_err-line_by-in-Beyond
returns-in_err-line_by-in-Beyond t c =
    let w : c.read_field-in-More.result ≡ Err Beyond = c.in-Err.is ∙ ap Err c.in-Beyond.is in
    let p = err_from_is_err_and c.from_residual-in_err-line_by-in-Beyond.result c.from_residual-in_err-line_by-in-Beyond.ensures.1 in
    rw (p.1, p.2) (beyond_not _ _ c.if-i-ge-ENTRIES.false _ _ _ _ c.cut_at-part-in-More.ensures _ _ c.in-More.ensures _
    c.read_field-in-More.ensures _ c.in-Some.is _ _ w
    c.line_by-in-Beyond.ensures _ c.in_err-line_by-in-Beyond.was)

pub returns-in_ok-line_by-in-Beyond : goal.returns-in_ok-line_by-in-Beyond
returns-in_ok-line_by-in-Beyond t c =
    let w : c.read_field-in-More.result ≡ Err Beyond = c.in-Err.is ∙ ap Err c.in-Beyond.is in
    rw c.in-Beyond.is (beyond_then _ _ c.if-i-ge-ENTRIES.false _ _ _ _ c.cut_at-part-in-More.ensures _ _ c.in-More.ensures _
    c.read_field-in-More.ensures _ c.in-Some.is _ _ w
    c.line_by-in-Beyond.ensures _ c.in_ok-line_by-in-Beyond.was)

pub returns-in_err-line_by-in-Ok : goal.returns-in_err-line_by-in-Ok
returns-in_err-line_by-in-Ok t c =
    let p = err_from_is_err_and c.from_residual-in_err-line_by-in-Ok.result c.from_residual-in_err-line_by-in-Ok.ensures.1 in
    rw (p.1, p.2) (more_not _ _ c.if-i-ge-ENTRIES.false _ _ _ _ c.cut_at-part-in-More.ensures _ _ c.in-More.ensures _
    c.read_field-in-More.ensures _ c.in-Some.is _ _ _ _ c.in-Ok.is c.stated.ensures.0
    c.line_by-in-Ok.ensures _ c.in_err-line_by-in-Ok.was)

pub returns-in_ok-line_by-in-Ok : goal.returns-in_ok-line_by-in-Ok
returns-in_ok-line_by-in-Ok t c =
    more_put _ _ c.if-i-ge-ENTRIES.false _ _ _ _ c.cut_at-part-in-More.ensures _ _ c.in-More.ensures _
    c.read_field-in-More.ensures _ c.in-Some.is _ _ _ _ c.in-Ok.is c.stated.ensures.0
    c.line_by-in-Ok.ensures _ _ c.in_ok-line_by-in-Ok.was c.put_said-in-Ok.ensures
