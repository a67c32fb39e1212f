-- Laws of the walk over a text's lines: what each way out of the loop gives, and what holds as it goes on. Assumes nothing.
use mathlib.Core.Path.{◌≡◌, refl, sym, ap, ◌∙◌, subst}
use mathlib.Core.Bool.{Bool, true, false, cond}
use mathlib.Core.List.{List, [], ◌∷◌, ◌++◌}
use Prim.Native.Nat.{ℕ, zero, suc, ◌+◌, ◌-◌, ◌*◌, ◌≤◌, ◌<◌}
use native.Mathlib.Omega.{arith}
use lib.Dec.{eqb, leb}
use lib.IntN.{ℤ}
use lib.ListN.{length, take, drop, length-set, length-drop, drop_of_length-le}
use lib.Seq.{drop-cons, drop-drop, sets}
use borrow.Author.Tests.{le-leb, lt-leb}
use Rattle.meaning.specs.Value.{Rows, laid, place, VALUE}
use Rattle.meaning.specs.Split.{fields, lines}
use Rattle.meaning.specs.Grammar.{Record, e_record, no_record, row_size}
use Rattle.meaning.specs.Line.{Line, line_of, faulty}
use Rattle.meaning.specs.Text.{Result, done, refused, answer, answer_of, turns_of, no_rows, with_row, further, line_taken}
use Rattle.meaning.specs.Text.{record_of, walk, value_of}
use Rattle.meaning.specs.declared.Answer.{Answer}
use Rattle.fields.specs.Parts.{Stop}
use Rattle.fields.proofs.SplitLaws.{stop_is}
use Rattle.std.proofs.Common.{Option, None, Some, ControlFlow, Break}
use Rattle.std.specs.Prelude.{position}
use Rattle.std.proofs.lemmas.List.{take_all}
use Rattle.meaning.specs.declared.Fault.{Fault}
use Rattle.meaning.specs.declared.Fault.TheVariants.{Wrong, Beyond}
use Rattle.lines.specs.Took.{Took}
use Rattle.round_trip.specs.Rows.{Whole}
use Rattle.reader.specs.Order.{turn_of, place_of, turns_after, Within, with_counts}
use Rattle.reader.specs.Scanned.{zeros, Scanned}
use Rattle.reader.specs.Onward.{laid_out, Walking, Onward, no_turns}
use Rattle.reader.specs.declared.order.Turns.{Turns}
use Rattle.reader.specs.declared.scan.Progress.{Progress}
use Rattle.reader.proofs.OrderLaws.{no_line}
use Rattle.reader.proofs.LayLaws.{laid_none, length_zeros, next_numbers, counted_numbers}
use Rattle.reader.proofs.RowLaws.{row_fits}
use Rattle.reader.proofs.HeldLaws.{counts_are, next_turns, next_fit, fit_start, within_fit}

-- ---- the lines from a place on
module _ (s : List ℕ) (at : ℕ) where
  module _ (q : Stop 10 (drop at s) None) (w : Rows) (n : ℕ) where
    lines_last : lines (drop at s) ≡ drop at s ∷ []
    unfolding lines
    lines_last = rw q.is

    walk_cut : at < length s → walk n w (lines (drop at s)) ≡ refused 1 n
    unfolding walk
    walk_cut k = rw (lines_last, drop-cons s at 0 k)

    walk_last : length s ≤ at → walk n w (lines (drop at s)) ≡ cond (leb 1 (length (w e_record))) (done w) (refused 1 n)
    unfolding walk
    walk_last k = rw (lines_last, drop_of_length-le s k)

  module _ (k : ℕ) (q : Stop 10 (drop at s) (Some k)) (w : Rows) (n : ℕ) where
    lines_next : lines (drop at s) ≡ take k (drop at s) ∷ lines (drop (at + k + 1) s)
    unfolding lines
    lines_next = let z : at + (k + 1) ≡ at + k + 1 = omega arith in rw (q.is, drop-drop (k + 1) at s, z)

    walk_next : walk n w (lines (drop at s)) ≡ line_taken (fields (take k (drop at s))) n w (λ v. walk
        (n + 1) v (lines (drop (at + k + 1) s)))
    unfolding walk lines
    walk_next = rw lines_next

-- the place of the first LF, in what is left of the text
pub stop_left : (s : List ℕ) (at : ℕ) (r : Option ℕ) → r ≡ position (λ b. eqb b 10) (take (length s - at) (drop at s))
    → Stop 10 (drop at s) r
stop_left s at r e =
    let k : length (drop at s) ≤ length s - at = omega (arith, length-drop at s) in
    stop_is 10 (drop at s) r (rw (take_all (length s - at) (drop at s) k) at e)

pub line_inside : (s : List ℕ) (at k : ℕ) → Stop 10 (drop at s) (Some k) → at + k < length s
line_inside s at k q = omega (arith, q.inside, length-drop at s)

-- ---- a line that is wrong
never : {A : Type 0} (g : Fault) → (faulty g).mark ≡ 0 → A
never Wrong e = absurd (omega arith)
never Beyond e = absurd (omega arith)

-- ---- what the loop keeps
pub walking_start : (s : List ℕ) (n0 : ℕ) (l : List ℤ) → l ≡ zeros n0 → Walking s n0 l 0 1 no_turns
walking_start s n0 l e = record {
  read = no_rows;
  turns = refl;
  numbers = λ h. e ∙ laid_none n0 h;
  fit = fit_start;
  size = ap length e ∙ length_zeros n0;
  inside = omega arith;
  line = omega arith;
  same = refl;
}

module _ (s : List ℕ) (n0 : ℕ) (l : List ℤ) (at n : ℕ) (t : Turns) (w : Walking s n0 l at n t) where
  pub walking_within : Within t
  walking_within = within_fit w.read w.fit t w.turns

  same_events : t.events ≡ length (w.read e_record)
  same_events = ap (λ (t : Turns). t.events) w.turns

  gives : (o : Result Rows) → walk n w.read (lines (drop at s)) ≡ o → walk 1 no_rows (lines s) ≡ o
  gives o e = sym w.same ∙ e

  refusal : (a p : ℕ) (l' : List ℤ) → length l' ≡ n0 → walk 1 no_rows (lines s) ≡ refused a p
      → Scanned (walk 1 no_rows (lines s)) (answer a p) n0 l'
  refusal a p l' z e = record { answer = sym (ap answer_of e); numbers = λ r f h. impossible r (sym e ∙ f); size = z }
    where
      impossible : (r : Rows) → refused a p ≡ done r → (l' ≡ value_of r ++ zeros (n0 - VALUE)) × Whole r
      impossible r f = let z : ◌≡◌ {A = ℕ} 0 1 = cc in absurd (omega arith)

  module _ (q : Stop 10 (drop at s) None) where
    pub scan_cut : at < length s → Scanned (walk 1 no_rows (lines s)) (answer 1 n) n0 l
    scan_cut k = refusal 1 n l w.size (gives (refused 1 n) (walk_cut s at q w.read n k))

    pub scan_missing : length s ≤ at → t.events < 1 → Scanned (walk 1 no_rows (lines s)) (answer 1 n) n0 l
    scan_missing k d =
        let g = same_events in
        let z : leb 1 (length (w.read e_record)) ≡ false = lt-leb 1 (length (w.read e_record)) (omega arith) in
        refusal 1 n l w.size
        (gives (refused 1 n) (walk_last s at q w.read n k ∙ ap (λ (b : Bool). cond b (done w.read) (refused 1 n)) z))

    pub scan_done : (l' : List ℤ) → l' ≡ with_counts t l → length s ≤ at → 1 ≤ t.events
        → Scanned (walk 1 no_rows (lines s)) (answer 0 0) n0 l'
    unfolding with_counts
    scan_done l' f k d =
        let g = same_events in
        let z : leb 1 (length (w.read e_record)) ≡ true = le-leb 1 (length (w.read e_record)) (omega arith) in
        let r : walk 1 no_rows (lines s) ≡ done w.read =
        gives (done w.read) (walk_last s at q w.read n k ∙ ap (λ (b : Bool). cond b (done w.read) (refused 1 n)) z) in
        record {
          answer = sym (ap answer_of r);
          numbers = λ rows i v. rest rows v (sym r ∙ i);
          size = ap length f ∙ sized t l ∙ w.size;
        }
      where
        sized : (t : Turns) (l : List ℤ) → length (with_counts t l) ≡ length l
        sized t l = simp length-set

        rest : (rows : Rows) → VALUE ≤ n0 → done w.read ≡ done rows → (l' ≡ value_of rows ++ zeros (n0 - VALUE)) × Whole rows
        rest rows v i =
            let j : w.read ≡ rows = cc in
            let g = same_events in
            let few = w.fit.few e_record in
            let m : l' ≡ value_of w.read ++ zeros (n0 - VALUE) =
            f ∙ rw (w.turns, w.numbers v) (counted_numbers w.read (zeros (n0 - VALUE)) w.fit) in
            (rw j at m, subst Whole j (record { fit = w.fit; one = omega arith }))

  module _ (k : ℕ) (q : Stop 10 (drop at s) (Some k)) where
    abbrev fs : List (List ℕ)
    fs = fields (take k (drop at s))

    module _ (r : Record) (e : r ≡ record_of fs) (m : ℕ) (l' : List ℤ) (o : Took (line_of r (turn_of t) fs) (place_of r t) l m l') where
      -- the row as the walk has it
      abbrev y : List ℤ
      y = (line_of r (turns_of w.read) fs).row

      abbrev onward : Rows → Result Rows
      onward v = walk (n + 1) v (lines (drop (at + k + 1) s))

      turns_are : turn_of t ≡ turns_of w.read
      turns_are = ap turn_of w.turns ∙ counts_are w.read w.fit

      as_read : line_of r (turn_of t) fs ≡ line_of r (turns_of w.read) fs
      as_read = rw turns_are

      mark_is : m ≡ (line_of r (turns_of w.read) fs).mark
      mark_is = o.mark ∙ ap (λ (l : Line). l.mark) as_read

      next_is : walk 1 no_rows (lines s) ≡ further m n (with_row r y w.read) onward
      next_is =
          sym w.same ∙ walk_next s at k q w.read n ∙ rw (← e) (ap (λ (a : ℕ). further a n (with_row r y w.read) onward) (sym mark_is))

      pub scan_fault : (m ≡ 0 → ⊥) → Scanned (walk 1 no_rows (lines s)) (answer m n) n0 l'
      scan_fault z = refusal m n l' (o.size ∙ w.size) (next_is ∙ stops m (with_row r y w.read) onward z)
        where
          stops : (m : ℕ) (v : Rows) (more : Rows → Result Rows) → (m ≡ 0 → ⊥) → further m n v more ≡ refused m n
          stops zero v more z = absurd (z refl)
          stops (suc m) v more z = refl

      pub scan_next : (u : Turns) → u ≡ turns_after r t → m ≡ 0 → Walking s n0 l' (at + k + 1) (n + 1) u
      unfolding place_of
      scan_next u i z =
          let p = w.line in
          let hi = line_inside s at k q in
          let fits = row_fits r (turns_of w.read) fs (sym mark_is ∙ z) in
          let stored : VALUE ≤ n0 → l' ≡ sets (laid_out w.read (zeros (n0 - VALUE))) (place_of r t) y =
          λ v. o.row z ∙ ap (λ (x : Line). sets l (place_of r t) x.row) as_read
          ∙ ap (λ (x : List ℤ). sets x (place_of r t) y) (w.numbers v) in
          let at_row : place_of r t ≡ place (laid r) + length (w.read r) * row_size r =
          ap (λ (n : ℕ). place (laid r) + n * row_size r) (ap (λ (f : Record → ℕ). f r) turns_are) in
          record {
            read = with_row r y w.read;
            turns = i ∙ ap (turns_after r) w.turns ∙ next_turns w.read r y;
            numbers = λ v. stored v ∙ rw at_row (next_numbers w.read (zeros (n0 - VALUE)) y w.fit r fits.0 fits.1);
            fit = next_fit w.read w.fit r y fits.0 fits.1;
            size = o.size ∙ w.size;
            inside = omega arith;
            line = omega arith;
            same = sym (next_is ∙ rw z);
          }

    pub scan_unnamed : no_record ≡ record_of fs → Scanned (walk 1 no_rows (lines s)) (answer 1 n) n0 l
    scan_unnamed e = scan_fault no_record e 1 l (record {
      mark = sym (no_line (turn_of t) fs);
      row = λ z. absurd (omega arith);
      size = refl;
    }) (λ z. absurd (omega arith))

    pub scan_faulty : (r : Record) → r ≡ record_of fs → (g : Fault) (l' : List ℤ)
        → Took (line_of r (turn_of t) fs) (place_of r t) l (faulty g).mark l'
        → Scanned (walk 1 no_rows (lines s)) (answer (faulty g).mark n) n0 l'
    scan_faulty r e g l' o = scan_fault r e (faulty g).mark l' o (λ z. never g z)

-- ---- how far the reading has come

module _ (s : List ℕ) (n0 : ℕ) (l : List ℤ) (at : ℕ) where
  pub onward_over : (a : Answer) (r : ControlFlow Answer Progress) → r ≡ Break a → Scanned (walk 1 no_rows (lines s)) a n0 l
      → Onward s n0 l at r
  onward_over a r e h = subst (Onward s n0 l at) (sym e) h
