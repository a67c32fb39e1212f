-- `exec` goes by the code of an instruction. Assumes nothing.
use mathlib.Core.Path.{◌≡◌, refl, sym, ap, ◌∙◌, subst}
use Prim.Native.Nat.{ℕ, ◌+◌, ◌<◌}
use native.Mathlib.Omega.{arith}
use borrow.Author.Rules.{rules}
use Rattle.std.specs.Prelude.{Ok, Err}
use mir.Syntax.{w32}
use mir.Val.{SFits}
use lib.IntN.{pos}
use lib.ListN.{get_or, length}
use mir.Facts.{to_z-of_z}
use Rattle.sizes.specs.Sizes.{STATES}
use Rattle.numbers.specs.Reference.{ref, NOWHERE}
use Rattle.numbers.specs.Place.{place_of}
use Rattle.numbers.proofs.Laws.{back32}
use Rattle.chart_rows.proofs.Said.{said_of}
use Rattle.plan_rows.proofs.Rows.{sized}
use Rattle.widget.specs.Acts.{Below}
use Rattle.plan_code.specs.Code.{Row, Names, Varied}
use Rattle.plan_code.proofs.Executing.{enters, leaves, sets, adds, takes, sends, tells}
use Rattle.plan_code.proofs.Executing.{skips_out, skips_empty, skips_full, skips_not, is_some_filled, not_some_empty, same_holds}
use Rattle.plan_code.proofs.Reading.{is_in, is_out, is_skip_out, is_skip_empty, is_skip_full, is_skip_not}
use Rattle.plan_code.proofs.Reading.{is_set, is_add, is_take, is_send, is_tell}
use Rattle.plan_code.proofs.Reading.{in_names, out_names, skip_out_names, skip_empty_names, skip_full_names, skip_not_names}
use Rattle.plan_code.proofs.Reading.{set_names, add_names, take_names, send_names}
use Rattle.plan_code.proofs.exec.Goals.{After-said}
use Rattle.plan_code.proofs.exec.Goals as goal

-- ---- the row
abbrev its-row : (n : After-said) → Row n.args.plan.now n.args.row
its-row n = n.requires.0

-- a number of the row that names something
names : (n : After-said) (j : ℕ) → j < 4 → ref (get_or n.args.plan.now (n.args.row + j) (pos 0)) < NOWHERE
    → Names n.args.plan.now (n.args.row + j)
names n j l h = (omega (arith, (its-row n).whole, l), h)

-- ---- IN, OUT
pub known-requires : goal.known-requires
known-requires c =
    let n = (goal.at.known-requires c).After-said in
    names n 1 (omega arith) (omega (arith, in_names (its-row n) c.in-In.ensures))

pub mark_entered-requires : goal.mark_entered-requires
mark_entered-requires c =
    let n = (goal.at.mark_entered-requires c).After-said in
    (rw c.known.ensures (in_names (its-row n) c.in-In.ensures), c.requires.1)

pub known-requires-in-Out : goal.known-requires-in-Out
known-requires-in-Out c =
    let n = (goal.at.known-requires-in-Out c).After-said in
    names n 1 (omega arith) (omega (arith, (out_names (its-row n) c.in-Out.ensures).0))

pub mark_left-requires : goal.mark_left-requires
mark_left-requires c =
    let n = (goal.at.mark_left-requires c).After-said in
    let r = c.read in
    let o = out_names (its-row n) c.in-Out.ensures in (
      subst (Below STATES) (sym (said_of place_of r.type_inv r.ensures c.place_of-p.ensures)) o.1,
      rw c.known-in-Out.ensures o.0,
      c.requires.1,
    )

pub returns-in_err-mark_entered-in-In : goal.returns-in_err-mark_entered-in-In
returns-in_err-mark_entered-in-In c =
    let n = (goal.at.returns-in_err-mark_entered-in-In c).After-said in
    let q : c.from_residual.result ≡ Err c.in_err-mark_entered-in-In.field-0.0 = search rules in
    enters q (is_in (its-row n) c.known.ensures c.in-In.ensures) c.in_err-mark_entered-in-In.ensures

pub returns-in_ok-mark_entered-in-In : goal.returns-in_ok-mark_entered-in-In
returns-in_ok-mark_entered-in-In c =
    let n = (goal.at.returns-in_ok-mark_entered-in-In c).After-said in
    enters (ap Ok c.onward.ensures) (is_in (its-row n) c.known.ensures c.in-In.ensures) c.in_ok-mark_entered-in-In.ensures

pub returns-in_err-mark_left-in-Out : goal.returns-in_err-mark_left-in-Out
returns-in_err-mark_left-in-Out c =
    let n = (goal.at.returns-in_err-mark_left-in-Out c).After-said in
    let r = c.read in
    let q : c.from_residual-in_err-mark_left-in-Out.result ≡ Err c.in_err-mark_left-in-Out.field-0.0 = search rules in
    leaves q
    (is_out (its-row n) c.known-in-Out.ensures c.in-Out.ensures
    (said_of place_of r.type_inv r.ensures c.place_of-p.ensures)) c.in_err-mark_left-in-Out.ensures

pub returns-in_ok-mark_left-in-Out : goal.returns-in_ok-mark_left-in-Out
returns-in_ok-mark_left-in-Out c =
    let n = (goal.at.returns-in_ok-mark_left-in-Out c).After-said in
    let r = c.read in
    leaves (ap Ok c.onward-in-Out.ensures)
    (is_out (its-row n) c.known-in-Out.ensures c.in-Out.ensures
    (said_of place_of r.type_inv r.ensures c.place_of-p.ensures)) c.in_ok-mark_left-in-Out.ensures

-- ---- SKIPOUT, SKIPEMPTY, SKIPFULL, SKIPNOT
pub known-requires-in-SkipOut : goal.known-requires-in-SkipOut
known-requires-in-SkipOut c =
    let n = (goal.at.known-requires-in-SkipOut c).After-said in
    names n 1 (omega arith) (omega (arith, (skip_out_names (its-row n) c.in-SkipOut.ensures).0))

pub bounds-widget-known : goal.bounds-widget-known
bounds-widget-known c =
    let n = (goal.at.bounds-widget-known c).After-said in
    omega (arith, c.known-in-SkipOut.ensures, (skip_out_names (its-row n) c.in-SkipOut.ensures).0)

pub unless-requires : goal.unless-requires
unless-requires c =
    let n = (goal.at.unless-requires c).After-said in
    names n 2 (omega arith) (omega (arith, (skip_out_names (its-row n) c.in-SkipOut.ensures).1))

pub known-requires-in-SkipEmpty : goal.known-requires-in-SkipEmpty
known-requires-in-SkipEmpty c =
    let n = (goal.at.known-requires-in-SkipEmpty c).After-said in
    names n 1 (omega arith) (omega (arith, (skip_empty_names (its-row n) c.in-SkipEmpty.ensures).0))

pub bounds-widget-known-in-SkipEmpty : goal.bounds-widget-known-in-SkipEmpty
bounds-widget-known-in-SkipEmpty c =
    let n = (goal.at.bounds-widget-known-in-SkipEmpty c).After-said in
    omega (arith, c.known-in-SkipEmpty.ensures, (skip_empty_names (its-row n) c.in-SkipEmpty.ensures).0)

pub offset_bounds-widget-known : goal.offset_bounds-widget-known
offset_bounds-widget-known c =
    let n = (goal.at.offset_bounds-widget-known c).After-said in
    omega (arith, c.known-in-SkipEmpty.ensures, (skip_empty_names (its-row n) c.in-SkipEmpty.ensures).0)

pub unless-requires-in-SkipEmpty : goal.unless-requires-in-SkipEmpty
unless-requires-in-SkipEmpty c =
    let n = (goal.at.unless-requires-in-SkipEmpty c).After-said in
    names n 2 (omega arith) (omega (arith, (skip_empty_names (its-row n) c.in-SkipEmpty.ensures).1))

pub known-requires-in-SkipFull : goal.known-requires-in-SkipFull
known-requires-in-SkipFull c =
    let n = (goal.at.known-requires-in-SkipFull c).After-said in
    names n 1 (omega arith) (omega (arith, (skip_full_names (its-row n) c.in-SkipFull.ensures).0))

pub bounds-widget-known-in-SkipFull : goal.bounds-widget-known-in-SkipFull
bounds-widget-known-in-SkipFull c =
    let n = (goal.at.bounds-widget-known-in-SkipFull c).After-said in
    omega (arith, c.known-in-SkipFull.ensures, (skip_full_names (its-row n) c.in-SkipFull.ensures).0)

pub offset_bounds-widget-known-in-SkipFull : goal.offset_bounds-widget-known-in-SkipFull
offset_bounds-widget-known-in-SkipFull c =
    let n = (goal.at.offset_bounds-widget-known-in-SkipFull c).After-said in
    omega (arith, c.known-in-SkipFull.ensures, (skip_full_names (its-row n) c.in-SkipFull.ensures).0)

pub unless-requires-in-SkipFull : goal.unless-requires-in-SkipFull
unless-requires-in-SkipFull c =
    let n = (goal.at.unless-requires-in-SkipFull c).After-said in
    names n 2 (omega arith) (omega (arith, (skip_full_names (its-row n) c.in-SkipFull.ensures).1))

pub known-requires-in-SkipNot : goal.known-requires-in-SkipNot
known-requires-in-SkipNot c =
    let n = (goal.at.known-requires-in-SkipNot c).After-said in
    names n 1 (omega arith) (omega (arith, (skip_not_names (its-row n) c.in-SkipNot.ensures).0))

pub bounds-widget-known-in-SkipNot : goal.bounds-widget-known-in-SkipNot
bounds-widget-known-in-SkipNot c =
    let n = (goal.at.bounds-widget-known-in-SkipNot c).After-said in
    omega (arith, c.known-in-SkipNot.ensures, (skip_not_names (its-row n) c.in-SkipNot.ensures).0)

pub offset_bounds-widget-known-in-SkipNot : goal.offset_bounds-widget-known-in-SkipNot
offset_bounds-widget-known-in-SkipNot c =
    let n = (goal.at.offset_bounds-widget-known-in-SkipNot c).After-said in
    omega (arith, c.known-in-SkipNot.ensures, (skip_not_names (its-row n) c.in-SkipNot.ensures).0)

pub known-d-requires : goal.known-d-requires
known-d-requires c =
    let n = (goal.at.known-d-requires c).After-said in
    names n 2 (omega arith) (omega (arith, (skip_not_names (its-row n) c.in-SkipNot.ensures).1))

pub unless-requires-in-SkipNot : goal.unless-requires-in-SkipNot
unless-requires-in-SkipNot c =
    let n = (goal.at.unless-requires-in-SkipNot c).After-said in
    names n 3 (omega arith) (omega (arith, (skip_not_names (its-row n) c.in-SkipNot.ensures).2))

pub returns-in-SkipOut : goal.returns-in-SkipOut
returns-in-SkipOut c =
    let n = (goal.at.returns-in-SkipOut c).After-said in
    let e = c.in-SkipOut.ensures in
    skips_out _ c.unless.ensures c.requires.1 (skip_out_names (its-row n) e).1 (is_skip_out (its-row n) c.known-in-SkipOut.ensures e) refl

pub returns-in-SkipEmpty : goal.returns-in-SkipEmpty
returns-in-SkipEmpty c =
    let n = (goal.at.returns-in-SkipEmpty c).After-said in
    let e = c.in-SkipEmpty.ensures in
    let k = skip_empty_names (its-row n) e in
    let s = c.known-in-SkipEmpty.result in
    let x : SFits w32 (get_or c.args.widget.now.slots s (pos 0)) = search rules in
    let long : length c.args.widget.now.slots ≡ STATES = search rules in
    skips_empty _ c.unless-in-SkipEmpty.ensures c.requires.1 k.1 (omega (arith, long, c.known-in-SkipEmpty.ensures, k.0))
    (rw (to_z-of_z x) at c.place_of-held.ensures)
    (is_skip_empty (its-row n) c.known-in-SkipEmpty.ensures e) (c.is_some.ensures ∙ is_some_filled c.place_of-held.result)

pub returns-in-SkipFull : goal.returns-in-SkipFull
returns-in-SkipFull c =
    let n = (goal.at.returns-in-SkipFull c).After-said in
    let e = c.in-SkipFull.ensures in
    let k = skip_full_names (its-row n) e in
    let s = c.known-in-SkipFull.result in
    let x : SFits w32 (get_or c.args.widget.now.slots s (pos 0)) = search rules in
    let long : length c.args.widget.now.slots ≡ STATES = search rules in
    skips_full _ c.unless-in-SkipFull.ensures c.requires.1 k.1 (omega (arith, long, c.known-in-SkipFull.ensures, k.0))
    (rw (to_z-of_z x) at c.place_of-held-in-SkipFull.ensures)
    (is_skip_full (its-row n) c.known-in-SkipFull.ensures e) (not_some_empty c.is_none.result c.place_of-held-in-SkipFull.result c.is_none.ensures)

pub returns-in-SkipNot : goal.returns-in-SkipNot
returns-in-SkipNot c =
    let n = (goal.at.returns-in-SkipNot c).After-said in
    let e = c.in-SkipNot.ensures in
    let k = skip_not_names (its-row n) e in
    let s = c.known-in-SkipNot.result in
    let x : SFits w32 (get_or c.args.widget.now.slots s (pos 0)) = search rules in
    let long : length c.args.widget.now.slots ≡ STATES = search rules in
    skips_not _ c.unless-in-SkipNot.ensures c.requires.1 k.2 (omega (arith, long, c.known-in-SkipNot.ensures, k.0))
    (rw (to_z-of_z x) at c.place_of-held-in-SkipNot.ensures)
    (is_skip_not (its-row n) c.known-in-SkipNot.ensures e c.known-d.ensures) (c.eq.ensures ∙ same_holds c.known-d.result c.place_of-held-in-SkipNot.result)

-- ---- SET, ADD, TAKE, SEND, TELL
-- a variable of the plan names something
varied : (n : After-said)
    → Varied n.args.plan.now (ref (get_or n.args.plan.now (n.args.row + 1) (pos 0)))
    → Names n.args.plan.now (n.args.row + 1)
varied n v = names n 1 (omega arith) (omega (arith, (sized n.args.plan.now).vars, v.1))

pub known-requires-in-Set : goal.known-requires-in-Set
known-requires-in-Set c =
    let n = (goal.at.known-requires-in-Set c).After-said in
    varied n (set_names (its-row n) c.in-Set.ensures)

pub set-requires : goal.set-requires
set-requires c =
    let n = (goal.at.set-requires c).After-said in
    (rw c.known-in-Set.ensures (set_names (its-row n) c.in-Set.ensures), c.requires.1)

pub known-requires-in-Add : goal.known-requires-in-Add
known-requires-in-Add c =
    let n = (goal.at.known-requires-in-Add c).After-said in
    varied n (add_names (its-row n) c.in-Add.ensures)

pub add_to-requires : goal.add_to-requires
add_to-requires c =
    let n = (goal.at.add_to-requires c).After-said in
    (rw c.known-in-Add.ensures (add_names (its-row n) c.in-Add.ensures), c.requires.1)

pub known-requires-in-Take : goal.known-requires-in-Take
known-requires-in-Take c =
    let n = (goal.at.known-requires-in-Take c).After-said in
    varied n (take_names (its-row n) c.in-Take.ensures)

pub set-requires-in-Take : goal.set-requires-in-Take
set-requires-in-Take c =
    let n = (goal.at.set-requires-in-Take c).After-said in
    (rw c.known-in-Take.ensures (take_names (its-row n) c.in-Take.ensures), c.requires.1)

pub known-requires-in-Send : goal.known-requires-in-Send
known-requires-in-Send c =
    let n = (goal.at.known-requires-in-Send c).After-said in
    names n 1 (omega arith) (send_names (its-row n) c.in-Send.ensures)

pub send-requires : goal.send-requires
send-requires c =
    let n = (goal.at.send-requires c).After-said in
    (rw c.known-in-Send.ensures (send_names (its-row n) c.in-Send.ensures), c.requires.1)

pub returns-in_err-set-in-Set : goal.returns-in_err-set-in-Set
returns-in_err-set-in-Set c =
    let n = (goal.at.returns-in_err-set-in-Set c).After-said in
    let q : c.from_residual-in_err-set-in-Set.result ≡ Err c.in_err-set-in-Set.field-0.0 = search rules in
    sets q c.known-in-Set.result c.read-in-Set.result
    (is_set (its-row n) c.known-in-Set.ensures c.in-Set.ensures c.read-in-Set.ensures)
    (rw (back32 c.read-in-Set.result c.read-in-Set.type_inv) at c.in_err-set-in-Set.ensures)

pub returns-in_ok-set-in-Set : goal.returns-in_ok-set-in-Set
returns-in_ok-set-in-Set c =
    let n = (goal.at.returns-in_ok-set-in-Set c).After-said in
    sets (ap Ok c.onward-in-Set.ensures) c.known-in-Set.result c.read-in-Set.result
    (is_set (its-row n) c.known-in-Set.ensures c.in-Set.ensures c.read-in-Set.ensures)
    (rw (back32 c.read-in-Set.result c.read-in-Set.type_inv) at c.in_ok-set-in-Set.ensures)

pub returns-in_err-add_to-in-Add : goal.returns-in_err-add_to-in-Add
returns-in_err-add_to-in-Add c =
    let n = (goal.at.returns-in_err-add_to-in-Add c).After-said in
    let q : c.from_residual-in_err-add_to-in-Add.result ≡ Err c.in_err-add_to-in-Add.field-0.0 = search rules in
    adds q c.known-in-Add.result c.read-in-Add.result
    (is_add (its-row n) c.known-in-Add.ensures c.in-Add.ensures c.read-in-Add.ensures)
    (rw (back32 c.read-in-Add.result c.read-in-Add.type_inv) at c.in_err-add_to-in-Add.ensures)

pub returns-in_ok-add_to-in-Add : goal.returns-in_ok-add_to-in-Add
returns-in_ok-add_to-in-Add c =
    let n = (goal.at.returns-in_ok-add_to-in-Add c).After-said in
    adds (ap Ok c.onward-in-Add.ensures) c.known-in-Add.result c.read-in-Add.result
    (is_add (its-row n) c.known-in-Add.ensures c.in-Add.ensures c.read-in-Add.ensures)
    (rw (back32 c.read-in-Add.result c.read-in-Add.type_inv) at c.in_ok-add_to-in-Add.ensures)

pub returns-in_err-send-in-Send : goal.returns-in_err-send-in-Send
returns-in_err-send-in-Send c =
    let n = (goal.at.returns-in_err-send-in-Send c).After-said in
    let q : c.from_residual-in_err-send-in-Send.result ≡ Err c.in_err-send-in-Send.field-0.0 = search rules in
    sends q c.known-in-Send.result c.read-in-Send.result
    (is_send (its-row n) c.known-in-Send.ensures c.in-Send.ensures c.read-in-Send.ensures)
    (rw (back32 c.read-in-Send.result c.read-in-Send.type_inv) at c.in_err-send-in-Send.ensures)

pub returns-in_ok-send-in-Send : goal.returns-in_ok-send-in-Send
returns-in_ok-send-in-Send c =
    let n = (goal.at.returns-in_ok-send-in-Send c).After-said in
    sends (ap Ok c.onward-in-Send.ensures) c.known-in-Send.result c.read-in-Send.result
    (is_send (its-row n) c.known-in-Send.ensures c.in-Send.ensures c.read-in-Send.ensures)
    (rw (back32 c.read-in-Send.result c.read-in-Send.type_inv) at c.in_ok-send-in-Send.ensures)

pub returns-in_err-set-in-Take : goal.returns-in_err-set-in-Take
returns-in_err-set-in-Take c =
    let n = (goal.at.returns-in_err-set-in-Take c).After-said in
    let q : c.from_residual-in_err-set-in-Take.result ≡ Err c.in_err-set-in-Take.field-0.0 = search rules in
    takes q c.known-in-Take.result
    (is_take (its-row n) c.known-in-Take.ensures c.in-Take.ensures) (rw (to_z-of_z c.ranges.arg) at c.in_err-set-in-Take.ensures)

pub returns-in_ok-set-in-Take : goal.returns-in_ok-set-in-Take
returns-in_ok-set-in-Take c =
    let n = (goal.at.returns-in_ok-set-in-Take c).After-said in
    takes (ap Ok c.onward-in-Take.ensures) c.known-in-Take.result
    (is_take (its-row n) c.known-in-Take.ensures c.in-Take.ensures) (rw (to_z-of_z c.ranges.arg) at c.in_ok-set-in-Take.ensures)

pub returns-in_err-tell-in-Tell : goal.returns-in_err-tell-in-Tell
returns-in_err-tell-in-Tell c =
    let n = (goal.at.returns-in_err-tell-in-Tell c).After-said in
    let w = c.in-Tell.ensures in
    let q : c.from_residual-in_err-tell-in-Tell.result ≡ Err c.in_err-tell-in-Tell.field-0.0 = search rules in
    tells q c.read-in-Tell.result
    (is_tell (its-row n) w.0 w.1 w.2 w.3 w.4
    w.5 w.6 w.7 w.8 w.9 c.read-in-Tell.ensures)
    (rw (back32 c.read-in-Tell.result c.read-in-Tell.type_inv) at (c.in_err-tell-in-Tell.ensures c.args.widget.now))

pub returns-in_ok-tell-in-Tell : goal.returns-in_ok-tell-in-Tell
returns-in_ok-tell-in-Tell c =
    let n = (goal.at.returns-in_ok-tell-in-Tell c).After-said in
    let w = c.in-Tell.ensures in
    tells (ap Ok c.onward-in-Tell.ensures) c.read-in-Tell.result
    (is_tell (its-row n) w.0 w.1 w.2 w.3 w.4
    w.5 w.6 w.7 w.8 w.9 c.read-in-Tell.ensures)
    (rw (back32 c.read-in-Tell.result c.read-in-Tell.type_inv) at (c.in_ok-tell-in-Tell.ensures c.args.widget.now))
