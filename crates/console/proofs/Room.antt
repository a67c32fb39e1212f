-- How much room a report needs: HEAD bytes for its head, and LINE for each entry. Where the lent slice has it behind the place, the new
-- place lies no farther, so that nothing was lost. Assumes nothing.
use mathlib.Core.Path.{◌≡◌, ap, ◌∙◌}
use mathlib.Core.List.{List, [], ◌∷◌, ◌++◌}
use Prim.Native.Nat.{ℕ, ◌+◌, ◌*◌, ◌≤◌, ◌<◌, ◌^◌}
use native.Mathlib.Omega.{arith}
use lib.IntN.{ℤ}
use lib.Signed.{mag}
use lib.ListN.{length, length-append}
use Rattle.pen.specs.Pen.{Pen, pen, put_byte, put_all}
use Rattle.pen.proofs.Digits.{digits_length, numeral_length}
use Rattle.pen.proofs.Laws.{all_stands, all_long, then_bytes, then_byte, then_end}
use Rattle.meaning.specs.Number.{digits}
use Rattle.meaning.specs.Split.{LF}
use Rattle.meaning.specs.Program.{SPACE}
use Rattle.console.specs.Shown.{entry_line, entries_held, HEAD, LINE, largest}

-- bytes that fit
pub place_after : (bs l : List ℕ) (at m : ℕ) (q : Pen) → q ≡ put_all bs (pen l at) → length bs ≤ m → at + m ≤ length l → q.at ≤ at + m
place_after bs l at m q e h room =
    let s = all_stands bs l at (omega arith) in
    let n : q.at ≡ at + length bs = ap (λ p. p.at) e ∙ s.next in
    omega arith

pub entry_room : (x y z : ℤ) → mag x < 2 ^ 31 → mag y < 2 ^ 31 → mag z < 2 ^ 31 → length (entry_line x y z) ≤ LINE
unfolding entry_line
entry_room x y z f g h = simp length-append (omega (arith, numeral_length x f, numeral_length y g, numeral_length z h))

-- the head of a report, and then its entries
abbrev head : ℕ → ℕ → List ℕ
head number n = 82 ∷ SPACE ∷ (digits number ++ (SPACE ∷ (digits n ++ (LF ∷ []))))

head_room : (number n : ℕ) → number < 2 ^ 64 → n < 2 ^ 64 → length (head number n) ≤ HEAD
head_room number n f g = simp length-append (omega (arith, digits_length 19 number (omega arith), digits_length 19 n (omega arith)))

module _ (trace : List ℤ) (entries number n : ℕ) (l k : List ℕ) (at to r : ℕ) (a b c d e : Pen) where
  pub report_place : n ≡ entries_held entries trace
      → a ≡ put_byte 82 (pen l at) → b ≡ put_byte SPACE a → c ≡ put_all (digits number) b → d ≡ put_byte SPACE c
      → e ≡ put_all (digits n) d → pen k to ≡ put_byte LF e → (to + LINE * n ≤ length k → r ≤ to + LINE * n)
      → number < 2 ^ 64 → n < 2 ^ 64 → at + largest trace ≤ length l → r ≤ at + largest trace
  report_place hn ha hb hc hd he hk hr f g room =
      let w = then_byte (pen l at) 82 _ ha (then_byte a SPACE _ hb (then_bytes b (digits number) _ hc (then_byte c SPACE _ hd
      (then_bytes d (digits n) _ he (then_end e LF hk))))) in
      let long : length k ≡ length l = ap (λ p. length p.bytes) w ∙ all_long (head number n) (pen l at) in
      let place : to ≤ at + HEAD = place_after (head number n) l at HEAD (pen k to) w (head_room number n f g) (omega arith) in
      let last = hr (omega arith) in
      omega arith
