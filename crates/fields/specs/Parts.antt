-- What the functions over parts of a text say: where a part ends, and what stands behind its first separator. Assumes nothing.
use Rattle.std.specs.Prelude.{◌≡◌, List, [], ℕ, ◌+◌, ◌<◌, length, take, drop, Option, None, Some}
use Rattle.std.specs.Borrow.{Bor}
use Rattle.meaning.specs.Split.{Parts, parts, all, split}

-- a part that is cut at its separator at r, or has none
abbrev pub split_at : ℕ → List ℕ → Option ℕ → Parts
split_at sep s None = parts s []
split_at sep s (Some e) = parts (take e s) (all (split sep (drop (e + 1) s)))

-- r is a place of the part
abbrev pub Inside : List ℕ → Option ℕ → Type 0
Inside s None = Unit
Inside s (Some e) = e < length s

-- r is the place of the first separator, if there is one
pub record Stop (sep : ℕ) (s : List ℕ) (r : Option ℕ) : Type 0 where
  pub inside : Inside s r
  pub is : split sep s ≡ split_at sep s r

-- the first part, and those of what stands behind it
abbrev pub cut_of : ℕ → List ℕ → Option (Bor (List ℕ)) → Parts
cut_of sep first None = parts first []
cut_of sep first (Some rest) = parts first (all (split sep rest.now))
