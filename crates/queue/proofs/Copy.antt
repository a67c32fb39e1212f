-- A loop that copies a list onto another from the front: what stands after j turns, and after one more.
use mathlib.Core.Path.{◌≡◌, ◌∙◌}
use mathlib.Core.List.{List, ◌++◌}
use Prim.Native.Nat.{ℕ, suc, ◌+◌, ◌<◌}
use native.Mathlib.Nat.{le_of_lt, add_comm}
use native.Mathlib.Numerals.{add-one}
use native.Mathlib.Omega.{arith}
use lib.ListN.{length, take, drop, get_or, set, length-drop}
use lib.Seq.{drop-cons, take-suc, set_at, append_snoc, length-take-le, get_or-drop}

-- the first j elements of s, and then d's own
abbrev pub copied {ℓ} : {A : Type ℓ} → List A → List A → ℕ → List A
copied d s j = take j s ++ drop j d

pub copied_suc {ℓ} : {A : Type ℓ} (d s : List A) (j : ℕ) (z : A) → j < length d → j < length s
    → set (copied d s j) j (get_or s j z) ≡ copied d s (j + 1)
copied_suc d s j z hd hs =
    rw (add-one, take-suc s j z, append_snoc, drop-cons d j z)
    (set_at (take j s) (get_or d j z) (drop (suc j) d) (get_or s j z) j (length-take-le j s (le_of_lt hs)))

-- each place takes what the next one holds
pub shifted_suc {ℓ} : {A : Type ℓ} (d l : List A) (j : ℕ) (z : A) → j < length d → j + 1 < length l
    → set (copied d (drop 1 l) j) j (get_or l (j + 1) z) ≡ copied d (drop 1 l) (j + 1)
shifted_suc d l j z hd hl =
    rw (← at) (copied_suc d (drop 1 l) j z hd (rw length-drop (omega arith)))
  where
    at : get_or (drop 1 l) j z ≡ get_or l (j + 1) z
    at = get_or-drop 1 l j z ∙ rw (add_comm 1 j)
