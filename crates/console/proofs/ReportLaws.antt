-- Laws of what is printed of a call: what the code's proofs cite, and how much room a report needs. Assumes nothing.
use mathlib.Core.Path.{◌≡◌, refl, sym, ap, ◌∙◌}
use mathlib.Core.List.{List, [], ◌∷◌, ◌++◌, append_assoc}
use Prim.Native.Nat.{ℕ, suc, ◌+◌, ◌*◌, ◌/◌, ◌≤◌, ◌<◌}
use native.Mathlib.Omega.{arith}
use lib.IntN.{ℤ, pos}
use lib.ListN.{length, get_or, take, length-take}
use lib.Seq.{slice, slice_empty, slice-cons}
use Rattle.pen.specs.Pen.{Pen, put_byte, put_all}
use Rattle.pen.proofs.Laws.{all_append, then_bytes, then_byte, then_end}
use Rattle.meaning.specs.Number.{digits, numeral}
use Rattle.meaning.specs.Split.{LF}
use Rattle.meaning.specs.Widget.{ENTRY}
use Rattle.meaning.specs.Program.{SPACE, entry_lines, report}
use Rattle.console.specs.Shown.{entries_held, shown, entry_line}

-- an entry's line, and the lines after it
pub lines_cons : (x y z : ℤ) (more : List ℤ) → entry_lines (x ∷ y ∷ z ∷ more) ≡ entry_line x y z ++ entry_lines more
unfolding entry_lines entry_line
lines_cons x y z more = simp append_assoc

-- the parts of an entry's line and of a report, one after the other
entry_parts : (x y z : ℤ) → entry_line x y z ≡ numeral x ++ (SPACE ∷ (numeral y ++ (SPACE ∷ (numeral z ++ (LF ∷ [])))))
unfolding entry_line
entry_parts x y z = simp append_assoc

report_parts : (n : ℕ) (t : List ℤ)
    → report n t ≡ 82 ∷ SPACE ∷ (digits n ++ (SPACE ∷ (digits (length t / ENTRY) ++ (LF ∷ entry_lines t))))
unfolding report
report_parts n t = simp append_assoc

-- one entry, written part by part
module _ (x y z : ℤ) (p a b c d e r : Pen) where
  pub entry_steps : a ≡ put_all (numeral x) p → b ≡ put_byte SPACE a → c ≡ put_all (numeral y) b → d ≡ put_byte SPACE c
      → e ≡ put_all (numeral z) d → r ≡ put_byte LF e → r ≡ put_all (entry_line x y z) p
  entry_steps ha hb hc hd he hr =
      rw entry_parts (then_bytes p (numeral x) _ ha (then_byte a SPACE _ hb (then_bytes b (numeral y) _ hc (then_byte c SPACE _ hd
      (then_bytes d (numeral z) _ he (then_end e LF hr))))))

-- the head of a report and its entries, written part by part
module _ (number n : ℕ) (t : List ℤ) (p a b c d e f r : Pen) where
  pub report_steps : n ≡ length t / ENTRY → a ≡ put_byte 82 p → b ≡ put_byte SPACE a → c ≡ put_all (digits number) b → d ≡ put_byte SPACE c
      → e ≡ put_all (digits n) d → f ≡ put_byte LF e → r ≡ put_all (entry_lines t) f → r ≡ put_all (report number t) p
  report_steps hn ha hb hc hd he hf hr =
      rw (report_parts, ← hn) (then_byte p 82 _ ha (then_byte a SPACE _ hb (then_bytes b (digits number) _ hc (then_byte c SPACE _ hd
      (then_bytes d (digits n) _ he (then_byte e LF _ hf hr))))))

-- the lines of the entries from the k-th on, of n
abbrev pub from_entry : List ℤ → ℕ → ℕ → List ℕ
from_entry s n k = entry_lines (slice (ENTRY * k) (ENTRY * n) s)

-- at the end, and one more
module _ (s : List ℤ) (n k : ℕ) where
  pub entries_done : k ≤ n → n ≤ k → (p : Pen) → put_all (from_entry s n k) p ≡ p
  unfolding entry_lines put_all
  entries_done h g p = let e : k ≡ n = omega arith in rw (e, slice_empty)

  abbrev pub nth : ℕ → ℤ
  nth i = get_or s (ENTRY * k + i) (pos 0)

  module _ (fits : ENTRY * n ≤ length s) (h : k < n) where
    entry_cut : slice (ENTRY * k) (ENTRY * n) s ≡ get_or s (ENTRY * k) (pos 0) ∷ nth 1 ∷ nth 2 ∷ slice (ENTRY * (k + 1)) (ENTRY * n) s
    entry_cut =
        let a : suc (ENTRY * k) ≡ ENTRY * k + 1 = omega arith in
        let b : suc (ENTRY * k + 1) ≡ ENTRY * k + 2 = omega arith in
        let c : suc (ENTRY * k + 2) ≡ ENTRY * (k + 1) = omega arith in
        let x = slice-cons (ENTRY * k) (ENTRY * n) s (pos 0) (omega arith) fits in
        let y = slice-cons (ENTRY * k + 1) (ENTRY * n) s (pos 0) (omega arith) fits in
        let z = slice-cons (ENTRY * k + 2) (ENTRY * n) s (pos 0) (omega arith) fits in
        rw (x, a, y, b, z, c)

    pub entries_more : (p q : Pen) (x y z : ℤ) → q ≡ put_all (entry_line x y z) p
        → x ≡ get_or s (ENTRY * k) (pos 0) → y ≡ nth 1 → z ≡ nth 2 → put_all (from_entry s n (k + 1)) q ≡ put_all (from_entry s n k) p
    entries_more p q x y z e hx hy hz =
        ap (put_all (from_entry s n (k + 1))) (e ∙ rw (hx, hy, hz))
        ∙ sym (all_append (entry_line (get_or s (ENTRY * k) (pos 0)) (nth 1) (nth 2)) (from_entry s n (k + 1)) p)
        ∙ sym (ap (λ l. put_all l p) (ap entry_lines entry_cut
        ∙ lines_cons (get_or s (ENTRY * k) (pos 0)) (nth 1) (nth 2) (slice (ENTRY * (k + 1)) (ENTRY * n) s)))

-- ---- the entries that are shown: of a trace that is long enough, all of them
module _ (entries : ℕ) (trace : List ℤ) where
  pub held_fits : ENTRY * entries_held entries trace ≤ length trace
  held_fits = omega arith

  pub shown_count : (n : ℕ) → n ≡ entries_held entries trace → n ≡ length (shown entries trace) / ENTRY
  unfolding shown
  shown_count n e = rw length-take (omega arith)

  pub shown_all : ENTRY * entries ≤ length trace → shown entries trace ≡ take (ENTRY * entries) trace
  unfolding shown
  shown_all h = let e : entries_held entries trace ≡ entries = omega arith in rw e

  is_shown : take (ENTRY * entries_held entries trace) trace ≡ shown entries trace
  unfolding shown
  is_shown = refl

  -- a report of them, written part by part
  pub shown_steps : (number n : ℕ) (p a b c d e f r : Pen) → n ≡ entries_held entries trace → a ≡ put_byte 82 p → b ≡ put_byte SPACE a
      → c ≡ put_all (digits number) b → d ≡ put_byte SPACE c → e ≡ put_all (digits n) d → f ≡ put_byte LF e
      → r ≡ put_all (entry_lines (take (ENTRY * n) trace)) f → r ≡ put_all (report number (shown entries trace)) p
  shown_steps number n p a b c d e f r hn ha hb hc hd he hf hr =
      report_steps number n (shown entries trace) p a b c d e f r (shown_count n hn) ha hb hc hd he hf (hr ∙ rw (hn, is_shown))
