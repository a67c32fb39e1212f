-- What a walk over a part of the input gives: how far it went, and of exactly the bytes walked what they make of the widget and of the line
-- under way, and what they print behind the place in the lent bytes. Assumes nothing.
use Rattle.std.specs.Prelude.{ℕ, suc, ◌+◌, ◌≤◌, ◌≡◌, Bool, true, false, List, [], ◌∷◌, leb, length, drop}
use Rattle.std.proofs.Math.Seq.{slice}
use Rattle.pen.specs.Pen.{Pen, pen, put_all}
use Rattle.console.specs.Session.{Turns, Passed, passed, passed_all}
use Rattle.console.specs.Session.{Under as Seen}
use Rattle.session.specs.declared.Under.{Under}
use Rattle.session.specs.declared.Walked.{Walked}
use Rattle.session.specs.Turned.{LARGEST, seen}

-- there is room for one more report behind the place
abbrev pub roomy : Pen → Bool
roomy p = leb (p.at + LARGEST) (length p.bytes)

-- one byte more where there is room, else none
abbrev pub one_more : Bool → ℕ → ℕ
one_more true n = suc n
one_more false n = 0

-- how many of these bytes are walked: those before the first at which there might not be room for one more report
unfoldable pub reach : Turns → Seen → Pen → List ℕ → ℕ
reach f u p [] = 0
reach f u p (b ∷ bs) = one_more (roomy p) (reach f (passed f u b).under (put_all (passed f u b).printed p) bs)

-- the bytes of the part from a place up to another, and what they do
abbrev pub walked : Turns → Seen → List ℕ → ℕ → ℕ → Passed
walked f u part from to = passed_all f u (slice from to part)

pub record Walks (f : Turns) (part : List ℕ) (from : ℕ) (u : Seen) (before : List ℕ) (at : ℕ) (after : List ℕ) (r : Walked) : Type 0 where
  pub upto : r.upto ≡ from + reach f u (pen before at) (drop from part)
  pub under : seen r.under ≡ (walked f u part from r.upto).under
  pub bytes : pen after r.under.at ≡ put_all (walked f u part from r.upto).printed (pen before at)
  pub whole : at ≤ length before → r.under.at ≤ length before

-- all bytes of a part were walked: the widget and the line are as they leave them, and there is room for one more report
pub record Fed (f : Turns) (part : List ℕ) (u : Seen) (out : List ℕ) (r : Under) : Type 0 where
  pub under : seen r ≡ (passed_all f u part).under
  pub room : r.at + LARGEST ≤ length out
