-- `reader::scan::line_at` meets its contract: each way out is a law of the walk over a text's lines. Assumes nothing.
use native.Mathlib.Omega.{arith}
use mathlib.Core.Path.{◌≡◌, refl, ap}
use Prim.Native.Nat.{◌+◌, ◌-◌}
use Rattle.meaning.specs.Grammar.{record_by}
use Rattle.reader.proofs.HeardLaws.{line_heard, last_heard}
use Rattle.reader.proofs.ScanLaws.{scan_cut, scan_missing, scan_done, scan_faulty}
use Rattle.reader.proofs.ScanLaws.{scan_next, onward_over}
use Rattle.reader.proofs.scan.line_at.Goals.{then-at-text-via-then-at-text, then-at-text-via-else-at-text+then-turns-lt1}
use Rattle.reader.proofs.scan.line_at.Goals as goal

pub returns-then-at-text : goal.returns-then-at-text
returns-then-at-text c =
    let q = last_heard _ _ _ refl c.in_default.ensures c.requires.inside in
    onward_over _ _ _ _ _ _ c.over.ensures
    (elim c.then-at-text.branch [
      | then-at-text-via-then-at-text w ↦ scan_cut _ _ _ _ _ _ c.requires q w.if-at-text.true
      | then-at-text-via-else-at-text+then-turns-lt1 w ↦ scan_missing _ _ _ _ _ _ c.requires q w.if-at-text.false w.if-turns-lt1.true
    ])

pub returns-in_default : goal.returns-in_default
returns-in_default c =
    onward_over _ _ _ _ _ _ c.over-in_default.ensures
    (scan_done _ _ _ _ _ _ c.requires (last_heard _ _ _ refl c.in_default.ensures c.requires.inside) _ c.put_counts.ensures
    c.if-at-text.false c.if-turns-lt1.false)

pub returns-in-Err : goal.returns-in-Err
returns-in-Err c =
    let q = line_heard _ _ _ _ refl c.in-Some.ensures in
    onward_over _ _ _ _ _ _ c.faulty.ensures
    (scan_faulty _ _ _ _ _ _ c.requires _ q _ (ap record_by c.letter_at-letter.ensures) _ _ c.in-Err.ensures)

pub returns-in-Ok : goal.returns-in-Ok
returns-in-Ok c =
    let q = line_heard _ _ _ _ refl c.in-Some.ensures in
    let lo = c.in-Some.ensures.stop.low in
    let z : c.args.at + (c.in-Some.e - c.args.at) + 1 ≡ c.in-Some.e + 1 = omega arith in
    let w = scan_next _ _ _ _ _ _ c.requires _ q _ (ap record_by c.letter_at-letter.ensures) _ _ c.in-Ok.ensures
    _ c.counted.ensures refl in
    (rw z at w, omega arith)
