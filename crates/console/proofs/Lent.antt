-- What the engine lends of a call is reported as the definition says: of a trace with zeros behind it, the entries that it counts are the
-- call's own. Assumes nothing.
use mathlib.Core.Path.{◌≡◌, refl, ap}
use mathlib.Core.List.{List, [], ◌∷◌}
use Prim.Native.Nat.{ℕ, suc, ◌-◌, ◌*◌, ◌/◌, ◌≤◌}
use native.Mathlib.Omega.{arith}
use lib.IntN.{ℤ, pos}
use lib.ListN.{length, take, replicate, length-take, length-append}
use lib.Seq.{take-append-le}
use Rattle.meaning.specs.Lists.{padded}
use Rattle.meaning.specs.Widget.{ENTRY}
use Rattle.meaning.specs.Program.{entry_lines, report}
use Rattle.console.specs.Shown.{entries_held, shown}

-- the numbers of whole entries
abbrev whole : List ℤ → List ℤ
whole t = take (ENTRY * (length t / ENTRY)) t

lines_whole : (t : List ℤ) → entry_lines (whole t) ≡ entry_lines t
unfolding entry_lines
lines_whole [] = refl
lines_whole (x ∷ []) = refl
lines_whole (x ∷ y ∷ []) = refl
lines_whole (x ∷ y ∷ z ∷ more) =
    let e : ENTRY * (suc (suc (suc (length more))) / ENTRY) ≡ suc (suc (suc (ENTRY * (length more / ENTRY)))) = omega arith in
    rw (e, lines_whole more)

report_whole : (n : ℕ) (t : List ℤ) → report n (whole t) ≡ report n t
unfolding report
report_whole n t =
    let e : length (whole t) / ENTRY ≡ length t / ENTRY = rw length-take (omega arith) in
    rw (e, lines_whole t)

-- l is what was lent: the trace, and 0 past it
pub report_lent : (number n : ℕ) (t l : List ℤ)
    → l ≡ padded n (pos 0) t → length l ≡ n → report number (shown (length t / ENTRY) l) ≡ report number t
unfolding shown padded
report_lent number n t l e k =
    let long : length t ≤ n = omega (arith, simp length-append at (ap length e)) in
    let h : entries_held (length t / ENTRY) l ≡ length t / ENTRY = omega arith in
    rw (h, e, take-append-le (ENTRY * (length t / ENTRY)) t (replicate (n - length t) (pos 0)) (omega arith)) (report_whole number t)
