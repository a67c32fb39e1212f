-- Bytes inside a line change the line under way only: the widget stays, and nothing is printed. And laws of the loop that collects them.
-- Assumes nothing.
use mathlib.Core.Path.{◌≡◌, refl, sym, ap, ◌∙◌}
use mathlib.Core.Bool.{Bool, true, false, cond, false≢true}
use mathlib.Core.List.{List, [], ◌∷◌, ◌++◌}
use Prim.Native.Nat.{ℕ, ◌+◌, ◌<◌, ◌≤◌}
use borrow.Author.Tests.{ne_eqb}
use native.Mathlib.Omega.{arith}
use native.Mathlib.Numerals.{add-one}
use lib.Dec.{eqb}
use lib.ListN.{length, get_or, take, drop}
use lib.Seq.{slice, slice_empty, take-suc, drop-append-le, length-take-le}
use Rattle.meaning.specs.Split.{LF}
use Rattle.console.specs.declared.scan.Scan.{Scan}
use Rattle.console.specs.Scan.{fed, scan_on}
use Rattle.console.specs.Session.{Turns, Under, passed, passed_all}
use Rattle.console.specs.Stretch.{inside, Collects}
use Rattle.console.proofs.Session.{scan_snoc}

-- ---- what they do

-- the first of them is no LF, and the others are inside the line too
pub inside_more : (b : ℕ) (bs : List ℕ) → inside (b ∷ bs) ≡ true → (eqb b LF ≡ false) × (inside bs ≡ true)
unfolding inside
inside_more b bs h = go (eqb b LF) h
  where
    go : (t : Bool) → cond t false (inside bs) ≡ true → (t ≡ false) × (inside bs ≡ true)
    go true h = absurd (false≢true h)
    go false h = (refl, h)

-- the widget, and the line after these bytes
abbrev pub further : Under → List ℕ → Under
further u bs = record { state = u.state; scan = scan_on u.scan bs }

module _ (f : Turns) where
  pub passed_inside : (u : Under) (b : ℕ) (bs : List ℕ) → inside (b ∷ bs) ≡ true
      → passed f u b ≡ record { under = record { state = u.state; scan = fed u.scan b }; printed = [] }
  unfolding passed
  passed_inside u b bs h = rw (inside_more b bs h).0

  pub inside_passed : (u : Under) (bs : List ℕ) → inside bs ≡ true → passed_all f u bs ≡ record { under = further u bs; printed = [] }
  unfolding passed_all scan_on
  inside_passed u [] h = refl
  inside_passed u (b ∷ bs) h =
      rw (passed_inside u b bs h, inside_passed (record { state = u.state; scan = fed u.scan b }) bs (inside_more b bs h).1)

-- ---- the bytes between two places

pub slice_next : (part : List ℕ) (from i : ℕ) → from ≤ i → i < length part
    → slice from (i + 1) part ≡ slice from i part ++ (get_or part i 0 ∷ [])
slice_next part from i h k =
    ap (λ n. slice from n part) (add-one i)
    ∙ ap (drop from) (take-suc part i 0 k)
    ∙ drop-append-le from (take i part) (get_or part i 0 ∷ []) (rw (length-take-le i part (omega arith)) h)

inside_snoc : (bs : List ℕ) (b : ℕ) → inside bs ≡ true → (b ≡ LF → ⊥) → inside (bs ++ (b ∷ [])) ≡ true
unfolding inside
inside_snoc [] b h k = rw (ne_eqb b LF k)
inside_snoc (x ∷ xs) b h k = rw (inside_more x xs h).0 (inside_snoc xs b (inside_more x xs h).1 k)

-- ---- the loop

module _ (part : List ℕ) (from : ℕ) (s : Scan) where
  -- how it stands before the byte at i
  pub record Collecting (i : ℕ) (here : Scan) : Type 0 where
    pub order : from ≤ i
    pub within : i ≤ length part
    pub none : inside (slice from i part) ≡ true
    pub line : here ≡ scan_on s (slice from i part)

  pub collects_none : from ≤ length part → Collecting from s
  unfolding inside scan_on
  collects_none h = record { order = omega arith; within = h; none = rw (slice_empty from part); line = rw (slice_empty from part) }

  module _ (i : ℕ) (here : Scan) (w : Collecting i here) where
    -- one byte more
    pub collects_more : (next : Scan) → i < length part → (get_or part i 0 ≡ LF → ⊥) → next ≡ fed here (get_or part i 0)
        → Collecting (i + 1) next
    collects_more next h k e = record {
      order = omega (arith, w.order);
      within = omega arith;
      none = rw (slice_next part from i w.order h) (inside_snoc (slice from i part) (get_or part i 0) w.none k);
      line =
          e
          ∙ ap (λ l. fed l (get_or part i 0)) w.line
          ∙ sym (scan_snoc s (slice from i part) (get_or part i 0))
          ∙ ap (scan_on s) (sym (slice_next part from i w.order h));
    }

    -- at the part's end, and at LF
    pub collects_all : length part ≤ i → Collects part from s (record { upto = length part; scan = here })
    collects_all h =
        let e : length part ≡ i = omega (arith, w.within) in
        rw e (record { order = w.order; within = w.within; none = w.none; line = w.line; stop = λ k. absurd (omega arith) })

    pub collects_line : get_or part i 0 ≡ LF → Collects part from s (record { upto = i; scan = here })
    collects_line e = record { order = w.order; within = w.within; none = w.none; line = w.line; stop = λ k. e }
