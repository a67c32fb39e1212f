-- What is proved of the trace buffer as lists: three numbers written after the first ones, the rest set to 0, and that noting an entry's
-- numbers is `emit` of the entry. Assumes nothing.
use mathlib.Core.Path.{◌≡◌, refl, sym, ap, ◌∙◌}
use Prim.Native.Nat.{ℕ, suc, ◌+◌, ◌-◌, ◌≤◌, ◌<◌}
use mathlib.Core.List.{List, [], ◌∷◌, ◌++◌, append_assoc}
use native.Mathlib.Omega.{arith}
use borrow.Author.Tests.{le-leb, lt-leb}
use lib.ListN.{length, take, get_or, set, length-set}
use lib.Seq.{take-suc-set}
use lib.IntN.{ℤ, pos}
use Rattle.meaning.specs.Steps.{bind, ◌then◌, require}
use Rattle.meaning.specs.Widget.{Ctx, add_numbers, emit, numbers}
use Rattle.meaning.specs.declared.Entry.{Entry}
use Rattle.std.specs.Prelude.{Ok, Err}
use Rattle.meaning.specs.declared.answers.Refusal.TheVariants.{NoRoom}
use Rattle.widget.specs.View.{ctx, went, note, Noted}

-- an entry is written as its numbers are noted
pub emit_notes : (e : Entry) (k : Ctx) → emit e k ≡ note (numbers e) k
unfolding emit note
emit_notes e k = refl

pub no_room : (t : List ℤ) (at : ℕ) (ns : List ℤ) → at ≤ length t → length t - at < 3 → Noted ns t at (Err NoRoom) t
unfolding went note ctx require ◌then◌ bind
no_room t at ns l m = record {
  does = λ u. rw (lt-leb 3 (length t - at) m);
  fits = tt;
  kept = refl;
}

three : (s : List ℤ) (n : ℕ) (a b c : ℤ) → n + 3 ≤ length s
    → take (n + 3) (set (set (set s n a) (n + 1) b) (n + 2) c) ≡ take n s ++ (a ∷ b ∷ c ∷ [])
three s n a b c l =
    let q₃ : n + 3 ≡ suc (n + 2) = omega arith in
    let q₂ : n + 2 ≡ suc (n + 1) = omega arith in
    let q₁ : n + 1 ≡ suc n = omega arith in
    ap (λ i. take i (set (set (set s n a) (n + 1) b) (n + 2) c)) q₃
    ∙ take-suc-set (set (set s n a) (n + 1) b) (n + 2) c (simp length-set (omega arith))
    ∙ ap (λ l₁. l₁ ++ (c ∷ [])) (ap (λ i. take i (set (set s n a) (n + 1) b)) q₂
    ∙ take-suc-set (set s n a) (n + 1) b (simp length-set (omega arith))
    ∙ ap (λ l₁. l₁ ++ (b ∷ [])) (ap (λ i. take i (set s n a)) q₁ ∙ take-suc-set s n a (omega arith)))
    ∙ simp append_assoc

pub noted : (t : List ℤ) (at : ℕ) (a b c : ℤ) → at ≤ length t → 3 ≤ length t - at
    → Noted (a ∷ b ∷ c ∷ []) t at (Ok (at + 3)) (set (set (set t at a) (at + 1) b) (at + 2) c)
unfolding went note ctx require ◌then◌ bind add_numbers
noted t at a b c l m = record {
  does = λ u.
      let q : length t - (at + 3) ≡ length t - at - 3 = omega arith in
      rw (le-leb 3 (length t - at) m, three t at a b c (omega arith)) (simp length-set (rw q));
  fits = simp length-set (omega arith);
  kept = simp length-set;
}

-- three numbers that are given as a list of them
pub noted_all : (t : List ℤ) (at : ℕ) (ns : List ℤ) (a b c : ℤ) → length ns ≡ 3 → a ≡ get_or ns 0 (pos 0) → b ≡ get_or ns 1 (pos 0)
    → c ≡ get_or ns 2 (pos 0) → at ≤ length t → 3 ≤ length t - at → {ms : List ℤ} → ns ≡ ms
    → Noted ms t at (Ok (at + 3)) (set (set (set t at a) (at + 1) b) (at + 2) c)
noted_all t at [] a b c e f g h l m q = absurd (omega arith)
noted_all t at (x ∷ []) a b c e f g h l m q = absurd (omega arith)
noted_all t at (x ∷ y ∷ []) a b c e f g h l m q = absurd (omega arith)
noted_all t at (x ∷ y ∷ z ∷ []) a b c e f g h l m q = rw (f, g, h, sym q) (noted t at x y z l m)
noted_all t at (x ∷ y ∷ z ∷ w ∷ ns) a b c e f g h l m q = absurd (omega arith)
