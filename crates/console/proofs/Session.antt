-- The input, met byte by byte, prints what 01 says of its lines: "then posts and runs each line". Assumes nothing.
use mathlib.Core.Path.{◌≡◌, refl, sym, ap, ◌∙◌}
use mathlib.Core.Bool.{Bool, true, false}
use mathlib.Core.List.{List, [], ◌∷◌, ◌++◌, append_assoc, append-nil}
use Prim.Native.Nat.{ℕ}
use lib.Dec.{eqb}
use Rattle.meaning.specs.declared.State.{State}
use Rattle.meaning.specs.Chart.{Chart}
use Rattle.meaning.specs.Split.{LF, Parts, all, onto, cut, split, lines, fields}
use Rattle.meaning.specs.Program.{Input, Turn, do_line, turns, session, input_of, input_lines}
use Rattle.console.specs.declared.scan.Scan.{Scan}
use Rattle.console.specs.Scan.{empty, fed, line_at, began, scan_on, scan_of}
use Rattle.console.specs.Session.{Turns, Under, by_end, passed, passed_all, finished, all_printed}
use Rattle.console.proofs.Lines.{scan_line, scan_began, none_began}

-- what the lines print, one after the other
unfoldable pub turns_by : Turns → State → List (List ℕ) → List ℕ
turns_by f u [] = []
turns_by f u (l ∷ ls) = let t = f u (input_of (fields l)) in t.printed ++ turns_by f t.state ls

pub turns_of : (c : Chart) (u : State) (ls : List (List ℕ)) → turns_by (do_line c) u ls ≡ turns c u ls
unfolding turns_by turns
turns_of c u [] = refl
turns_of c u (l ∷ ls) = rw (turns_of c (do_line c u (input_of (fields l))).state ls)

-- what does the same to each line prints the same
pub turns_same : (f g : Turns) → ((u : State) (l : Input) → f u l ≡ g u l)
    → (u : State) (ls : List (List ℕ)) → turns_by f u ls ≡ turns_by g u ls
unfolding turns_by
turns_same f g h u [] = refl
turns_same f g h u (l ∷ ls) = rw (h u (input_of (fields l)), turns_same f g h (g u (input_of (fields l))).state ls)

-- one byte more
pub scan_snoc : (s : Scan) (bs : List ℕ) (b : ℕ) → scan_on s (bs ++ (b ∷ [])) ≡ fed (scan_on s bs) b
unfolding scan_on
scan_snoc s [] b = refl
scan_snoc s (d ∷ bs) b = scan_snoc (fed s d) bs b

abbrev after : State → List ℕ → Under
after u bs = record { state = u; scan = scan_of bs }

began_of : (b : ℕ) (bs : List ℕ) → began (scan_of (b ∷ bs)) ≡ true
unfolding scan_of
began_of b bs = scan_began b bs empty

snoc_of : (pre : List ℕ) (b : ℕ) → scan_of (pre ++ (b ∷ [])) ≡ fed (scan_of pre) b
unfolding scan_of
snoc_of pre b = scan_snoc empty pre b

-- before the first byte
abbrev pub fresh : State → Under
fresh u = record { state = u; scan = empty }

none_fed : (u : State) → after u [] ≡ fresh u
unfolding scan_of scan_on
none_fed u = refl

module _ (f : Turns) where
  -- the end of the input behind these bytes of a line
  at_end : (u : State) (pre : List ℕ) → (finished f (after u pre)).printed ≡ turns_by f u (input_lines (pre ∷ []))
  unfolding finished turns_by input_lines
  at_end u [] = rw none_began
  at_end u (b ∷ bs) = rw (began_of b bs, scan_line (b ∷ bs), append-nil)

  -- a line that ends before others
  line_first : (u : State) (pre : List ℕ) (q : Parts) (rest : State → List ℕ) → ((w : State) → rest w ≡ turns_by f w (input_lines (all q)))
      → (f u (line_at (scan_of pre))).printed ++ rest (f u (line_at (scan_of pre))).state ≡ turns_by f u (input_lines (pre ∷ all q))
  unfolding turns_by input_lines
  line_first u pre q rest e = rw (scan_line pre, e (f u (input_of (fields pre))).state)

  -- the input from here, behind these bytes of a line
  pub printed_from : (u : State) (pre bs : List ℕ)
      → all_printed f (after u pre) bs ≡ turns_by f u (input_lines (all (onto pre (split LF bs))))
  unfolding all_printed passed split
  printed_from u pre [] = at_end u pre ∙ rw append-nil
  printed_from u pre (b ∷ bs) =
      go (eqb b LF) (split LF bs) (λ w. printed_from w [] bs) (printed_from u (pre ++ (b ∷ [])) bs)
    where
      go : (t : Bool) (q : Parts)
          → ((w : State) → all_printed f (after w []) bs ≡ turns_by f w (input_lines (all q)))
          → all_printed f (after u (pre ++ (b ∷ []))) bs ≡ turns_by f u (input_lines (all (onto (pre ++ (b ∷ [])) q)))
          → (by_end f (after u pre) b t).printed ++ all_printed f (by_end f (after u pre) b t).under bs
          ≡ turns_by f u (input_lines (all (onto pre (cut t b q))))
      go true q next on =
          rw append-nil
          (line_first u pre q (λ w. all_printed f (fresh w) bs) (λ w. ap (λ s. all_printed f s bs) (sym (none_fed w)) ∙ next w))
      go false q next on = ap (λ s. all_printed f (record { state = u; scan = s }) bs) (sym (snoc_of pre b)) ∙ on ∙ rw append_assoc

-- ---- the input in parts

module _ (f : Turns) where
  -- bytes and then others
  pub under_append : (u : Under) (xs ys : List ℕ) → (passed_all f u (xs ++ ys)).under ≡ (passed_all f (passed_all f u xs).under ys).under
  unfolding passed_all
  under_append u [] ys = refl
  under_append u (x ∷ xs) ys = under_append (passed f u x).under xs ys

  pub printed_append : (u : Under) (xs ys : List ℕ)
      → (passed_all f u (xs ++ ys)).printed ≡ (passed_all f u xs).printed ++ (passed_all f (passed_all f u xs).under ys).printed
  unfolding passed_all
  printed_append u [] ys = refl
  printed_append u (x ∷ xs) ys = rw (printed_append (passed f u x).under xs ys, append_assoc)

  -- one byte
  pub under_one : (u : Under) (b : ℕ) → (passed_all f u (b ∷ [])).under ≡ (passed f u b).under
  unfolding passed_all
  under_one u b = refl

  pub printed_one : (u : Under) (b : ℕ) → (passed_all f u (b ∷ [])).printed ≡ (passed f u b).printed
  unfolding passed_all
  printed_one u b = append-nil (passed f u b).printed

  pub printed_none : (u : Under) → passed_all f u [] ≡ record { under = u; printed = [] }
  unfolding passed_all
  printed_none u = refl

  -- all of it, and then the end of the input
  pub all_by_parts : (u : Under) (bs : List ℕ)
      → all_printed f u bs ≡ (passed_all f u bs).printed ++ (finished f (passed_all f u bs).under).printed
  unfolding all_printed passed_all
  all_by_parts u [] = refl
  all_by_parts u (b ∷ bs) = rw (all_by_parts (passed f u b).under bs, append_assoc)

-- the law: "then posts and runs each line"
pub printed_all : (f : Turns) (u : State) (input : List ℕ) → all_printed f (fresh u) input ≡ turns_by f u (input_lines (lines input))
unfolding lines
printed_all f u input = ap (λ s. all_printed f s input) (sym (none_fed u)) ∙ printed_from f u [] input

-- what the program prints after the start, byte by byte, is what the definition says
pub session_printed : (c : Chart) (t : Turn) (input : List ℕ)
    → t.printed ++ all_printed (do_line c) (fresh t.state) input ≡ session c t input
unfolding session
session_printed c t input = rw (printed_all (do_line c) t.state input, turns_of c t.state (input_lines (lines input)))
