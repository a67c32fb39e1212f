-- What a part of the input has of one line, from a place on: its bytes inside the line, none of them LF, and the line under way after them.
-- That they change nothing else is proved in proofs/Stretch. Assumes nothing.
use Rattle.std.specs.Prelude.{ℕ, ◌<◌, ◌≤◌, ◌≡◌, Bool, true, false, cond, List, [], ◌∷◌, eqb, length, get_or}
use Rattle.std.proofs.Math.Seq.{slice}
use Rattle.meaning.specs.Split.{LF}
use Rattle.console.specs.declared.scan.Scan.{Scan}
use Rattle.console.specs.declared.scan.Collected.{Collected}
use Rattle.console.specs.Scan.{scan_on}

-- bytes inside a line: no LF among them
unfoldable pub inside : List ℕ → Bool
inside [] = true
inside (b ∷ bs) = cond (eqb b LF) false (inside bs)

-- the line s, after the bytes of the part from a place up to its LF or to the part's end
pub record Collects (part : List ℕ) (from : ℕ) (s : Scan) (r : Collected) : Type 0 where
  pub order : from ≤ r.upto
  pub within : r.upto ≤ length part
  pub none : inside (slice from r.upto part) ≡ true
  pub line : r.scan ≡ scan_on s (slice from r.upto part)
  pub stop : r.upto < length part → get_or part r.upto 0 ≡ LF
