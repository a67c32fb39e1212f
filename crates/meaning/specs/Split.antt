-- A text cut at each separator (01, "Chart text"): "One record a line, fields parted by one tab, each line ended by LF".
-- What follows the last separator is the last part. In the order: cut; joined again. Assumes nothing.
use Rattle.std.specs.Prelude.{ℕ, Bool, true, false, List, [], ◌∷◌, ◌++◌, eqb}

abbrev pub TAB : ℕ
TAB = 9

abbrev pub LF : ℕ
LF = 10

-- ---- cut

pub record Parts : Type 0 where
  pub first : List ℕ
  pub rest : List (List ℕ)

abbrev pub parts : List ℕ → List (List ℕ) → Parts
parts x r = record { first = x; rest = r }

abbrev pub all : Parts → List (List ℕ)
all p = p.first ∷ p.rest

-- bytes in front of the first part
abbrev pub onto : List ℕ → Parts → Parts
onto bs p = parts (bs ++ p.first) p.rest

-- a separator starts a new part; any other byte stands in front of the first
abbrev pub cut : Bool → ℕ → Parts → Parts
cut true b p = parts [] (all p)
cut false b p = onto (b ∷ []) p

unfoldable pub split : ℕ → List ℕ → Parts
split sep [] = parts [] []
split sep (b ∷ bs) = cut (eqb b sep) b (split sep bs)

unfoldable pub fields : List ℕ → List (List ℕ)
fields line = all (split TAB line)

-- the lines, each without its LF; the last part follows the last LF
unfoldable pub lines : List ℕ → List (List ℕ)
lines text = all (split LF text)

-- ---- joined again

-- each part with the separator in front of it
unfoldable pub tails : ℕ → List (List ℕ) → List ℕ
tails sep [] = []
tails sep (x ∷ xs) = sep ∷ x ++ tails sep xs

-- the fields of one line
unfoldable pub joined : List (List ℕ) → List ℕ
joined [] = []
joined (x ∷ xs) = x ++ tails TAB xs

-- "each line ended by LF"
unfoldable pub ended : List (List ℕ) → List ℕ
ended [] = []
ended (l ∷ ls) = l ++ LF ∷ ended ls

-- everything above, opened: for statements that compute
unfoldable pub split_open : ℕ
unfolding split fields lines tails joined ended
split_open = 0
