-- Where the line ends that starts at a position, as a fact that whoever reads the line can use. Assumes nothing.
use Rattle.std.specs.Prelude.{◌≡◌, List, [], ℕ, ◌+◌, ◌≤◌, length, Option, None, Some}
use Rattle.std.proofs.Common.{subst}
use Rattle.std.proofs.Math.Seq.{slice}
use Rattle.meaning.specs.Split.{all, split}

-- r is the first separator of the part from `from` to `to`, or its end
pub record Stop (sep : ℕ) (s : List ℕ) (from to r : ℕ) : Type 0 where
  pub low : from ≤ r
  pub high : r ≤ to
  pub head : (split sep (slice from to s)).first ≡ slice from r s
  pub last : r ≡ to → (split sep (slice from to s)).rest ≡ []
  pub more : (r ≡ to → ⊥) → (split sep (slice from to s)).rest ≡ all (split sep (slice (r + 1) to s))

pub record Ended (s : List ℕ) (at e : ℕ) : Type 0 where
  pub stop : Stop 10 s at (length s) e
  pub more : e ≡ length s → ⊥

abbrev pub Heard : List ℕ → ℕ → Option ℕ → Type 0
Heard s at (Some e) = Ended s at e
Heard s at None = at ≤ length s → Stop 10 s at (length s) (length s)

pub heard_line : (s : List ℕ) (at e : ℕ) (r : Option ℕ) → r ≡ Some e → Heard s at r → Ended s at e
heard_line s at e r f h = rw f at h

pub heard_last : (s : List ℕ) (at : ℕ) (r : Option ℕ) → r ≡ None → Heard s at r → at ≤ length s → Stop 10 s at (length s) (length s)
heard_last s at r f h = rw f at h

pub stop_at : {s : List ℕ} {at e k : ℕ} → e ≡ k → Stop 10 s at k e → Stop 10 s at k k
stop_at {s} {at} {e} {k} h q = subst (λ (n : ℕ). Stop 10 s at k n) h q
