-- Numbers that are written one after the other: what stands after each turn of a loop, after a whole copy, and after a row of copies.
-- Assumes nothing.
use mathlib.Core.Path.{◌≡◌, refl, sym, ap, ◌∙◌}
use mathlib.Core.List.{List, ◌++◌, append-nil}
use Prim.Native.Nat.{ℕ, ◌+◌, ◌<◌}
use native.Mathlib.Nat.{zero-add}
use native.Mathlib.Numerals.{add-one}
use native.Mathlib.Omega.{arith}
use lib.ListN.{length, take, drop, get_or, set, length-append, drop_of_length-le}
use lib.Seq.{paste, paste-suc, take_at, take_all, drop-append-add, drop-drop}

-- one more is copied
pub paste_more : {A : Type 0} (d s now : List A) (at j : ℕ) (x z : A) → now ≡ paste d at s j → x ≡ get_or s j z
    → at + j < length d → j < length s → set now (at + j) x ≡ paste d at s (j + 1)
paste_more d s now at j x z e f h k = rw (e, f, add-one) (paste-suc d at s j z h k)

-- a copy over the whole of a list
pub paste_whole : {A : Type 0} (d s : List A) (n : ℕ) → length d ≡ n → paste d 0 s n ≡ take n s
paste_whole d s n h = rw (zero-add, drop_of_length-le d {i = n} (omega arith)) (append-nil (take n s))

-- what is written from the front so far, and past it what was there
abbrev pub on : {A : Type 0} → List A → List A → List A
on a ns = a ++ drop (length a) ns

-- a copy right after what is written so far
pub paste_next : {A : Type 0} (a ns p now : List A) (at n : ℕ) → now ≡ on a ns → at ≡ length a → n ≡ length p
    → paste now at p n ≡ on (a ++ p) ns
paste_next a ns p now at n e f g =
    rw (
      e,
      f,
      g,
      take_at a (drop (length a) ns) (length a) refl,
      take_all (length p) p (omega arith),
      drop-append-add a (drop (length a) ns) (length p),
      drop-drop (length p) (length a) ns,
      length-append,
    )

-- the same from the front
pub paste_front : {A : Type 0} (d s now : List A) (j : ℕ) (x z : A) → now ≡ paste d 0 s j → x ≡ get_or s j z → j < length d → j < length s
    → set now j x ≡ paste d 0 s (j + 1)
paste_front d s now j x z e f h k =
    ap (λ i. set now i x) (sym (zero-add j)) ∙ paste_more d s now 0 j x z e f (rw zero-add h) k

-- all of it is copied
pub paste_done : {A : Type 0} (d s now : List A) (at j n : ℕ) → now ≡ paste d at s j → j ≡ n → now ≡ paste d at s n
paste_done d s now at j n e h = rw h at e
