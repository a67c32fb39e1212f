-- Laws of one line, walked by the table: what is left from an entry on, put behind what was put, is the whole. Assumes nothing.
use mathlib.Core.Path.{◌≡◌, refl, sym, ap, ◌∙◌, subst}
use mathlib.Core.Bool.{Bool, true, false, cond, false≢true}
use mathlib.Core.List.{List, [], ◌∷◌, append-nil}
use Prim.Native.Nat.{ℕ, ◌+◌, ◌≤◌, ◌<◌}
use lib.Dec.{ltb}
use lib.IntN.{ℤ}
use lib.ListN.{get_or}
use borrow.Author.Tests.{ltb-true, ltb-false}
use Rattle.meaning.specs.Grammar.{Field, width, Form, last, ◌tab◌, ◌or◌, form, name, Record}
use Rattle.meaning.specs.Value.{num, fits, fits_field}
use Rattle.meaning.specs.Split.{TAB, LF, tails, joined}
use Rattle.meaning.specs.Line.{write_field, write_by}
use Rattle.forms.specs.declared.Field.{Field as Cell}
use Rattle.forms.specs.declared.Entry.{Entry}
use Rattle.forms.specs.declared.Entry.TheVariants.{Last, More, Or}
use Rattle.forms.specs.Table.{ENTRIES, field_of, entries_of, no_entry, form_at}
use Rattle.forms.proofs.TableLaws.{plain, form_or, form_more, form_last, form_past, or_inside}
use Rattle.round_trip.specs.Rows.{tells}
use Rattle.round_trip.proofs.Fields.{both}
use Rattle.round_trip.proofs.Forms.{Clear, Starts, choice_first, choice_second}
use Rattle.round_trip.proofs.Records.{clear}
use Rattle.pen.specs.Pen.{Pen, put_byte, put_all}
use Rattle.pen.proofs.Laws.{all_append}
use Rattle.writer.specs.Row.{with_lf, line_at, told, Statable}

-- the fields by the form at entry i, from the numbers at a place on, put behind p, are the whole
pub record Left (v : List ℤ) (n : ℕ) (whole : Pen) (i at : ℕ) (p : Pen) : Type 0 where
  pub clear : Clear (form_at i)
  pub ok : fits (form_at i) at v ≡ true
  pub put : put_all (tails TAB (write_by (form_at i) n at v)) p ≡ whole

pub left_start : (r : Record) (n from i : ℕ) (v : List ℤ) (p : Pen) → form_at i ≡ form r n → Statable r n from v
    → Left v n (put_all (tails TAB (write_by (form r n) n from v)) p) i from p
left_start r n from i v p e s = record { clear = rw e (clear r n); ok = rw e s.fit; put = rw e }

-- an entry that is no choice: the form begins with its field
record Begun (x : Entry) (a : Form) : Type 0 where
  field : Field
  starts : Starts a field
  tell : (z : ℤ) → told x z ≡ tells field z

begun : (i : ℕ) → i < ENTRIES → (x : Entry) → x ≡ get_or entries_of i no_entry → plain x ≡ true → Begun x (form_at i)
begun i h (Last f) e t = record { field = field_of f; starts = rw (form_last i h f (sym e)) refl; tell = λ z. refl }
begun i h (More f) e t = record { field = field_of f; starts = rw (form_more i h f (sym e)) refl; tell = λ z. refl }
begun i h (Or k) e t = absurd (false≢true t)

module _ (v : List ℤ) (n : ℕ) (whole : Pen) (i at : ℕ) (p : Pen) (l : Left v n whole i at p) where
  -- no row fits what stands past the table
  pub left_inside : i < ENTRIES
  left_inside = go (ltb i ENTRIES) refl
    where
      past : ENTRIES ≤ i → fits (form_at i) at v ≡ false
      past h = rw (form_past i h)

      go : (t : Bool) → ltb i ENTRIES ≡ t → i < ENTRIES
      go true e = ltb-true i ENTRIES e
      go false e = absurd (false≢true (sym (past (ltb-false i ENTRIES e)) ∙ l.ok))

  -- a choice
  module _ (k : ℕ) (e : Or k ≡ get_or entries_of i no_entry) where
    abbrev first : Form
    first = form_at (i + 1)

    abbrev second : Form
    second = form_at (i + 1 + k)

    pub next_inside : i + 1 < ENTRIES
    next_inside = (or_inside i k left_inside (sym e)).0

    pub few_between : k ≤ ENTRIES
    few_between = (or_inside i k left_inside (sym e)).2

    or_form : form_at i ≡ first or second
    or_form = form_or i left_inside k (sym e)

    or_clear : Clear (first or second)
    or_clear = subst Clear or_form l.clear

    or_fits : fits (first or second) at v ≡ true
    or_fits = subst (λ (a : Form). fits a at v ≡ true) or_form l.ok

    or_put : put_all (tails TAB (cond (fits first at v) (write_by first n at v) (write_by second n at v))) p ≡ whole
    unfolding write_by
    or_put = subst (λ (a : Form). put_all (tails TAB (write_by a n at v)) p ≡ whole) or_form l.put

    module _ (x : Entry) (ex : x ≡ get_or entries_of (i + 1) no_entry) (z : ℤ) (ez : z ≡ num v at) (t : Bool) (et : t ≡ told x z) where
      begins : Begun x first
      begins = begun (i + 1) next_inside x ex (ap plain ex ∙ (or_inside i k left_inside (sym e)).1)

      tells_it : tells begins.field (num v at) ≡ t
      tells_it = sym (et ∙ begins.tell z ∙ ap (tells begins.field) ez)

      pub left_first : t ≡ true → Left v n whole (i + 1) at p
      left_first y =
          let h = choice_first first second begins.field begins.starts or_clear at v or_fits (tells_it ∙ y) in
          record { clear = or_clear.0; ok = h; put = rw h at or_put }

      pub left_second : t ≡ false → Left v n whole (i + 1 + k) at p
      left_second y =
          let h = choice_second first second begins.field begins.starts or_clear at v or_fits (tells_it ∙ y) in
          record { clear = or_clear.1.0; ok = h.1; put = rw h.0 at or_put }

  -- a field with more behind it, and one that ends its form
  module _ (f : Cell) where
    module _ (e : More f ≡ get_or entries_of i no_entry) where
      more_form : form_at i ≡ field_of f tab form_at (i + 1)
      more_form = form_more i left_inside f (sym e)

      more_fits : fits (field_of f tab form_at (i + 1)) at v ≡ true
      more_fits = subst (λ (a : Form). fits a at v ≡ true) more_form l.ok

      pub fits_more : fits_field (field_of f) at v ≡ true
      fits_more = (both (fits_field (field_of f) at v) (fits (form_at (i + 1)) (at + width (field_of f)) v) more_fits).0

      pub left_then : (q : Pen) → q ≡ put_all (TAB ∷ write_field (field_of f) n at v) p → (w : ℕ) → w ≡ width (field_of f)
          → Left v n whole (i + 1) (at + w) q
      unfolding write_by tails
      left_then q g w ew =
          let x : Field = field_of f in
          let rest : Form = form_at (i + 1) in
          let c : Clear (x tab rest) = subst Clear more_form l.clear in
          let u : put_all (tails TAB (write_by (x tab rest) n at v)) p ≡ whole =
          subst (λ (a : Form). put_all (tails TAB (write_by a n at v)) p ≡ whole) more_form l.put in
          rw ew (record {
            clear = c.1;
            ok = (both (fits_field x at v) (fits rest (at + width x) v) more_fits).1;
            put = ap (put_all (tails TAB (write_by rest n (at + width x) v))) g
                ∙ sym (all_append (TAB ∷ write_field x n at v) (tails TAB (write_by rest n (at + width x) v)) p) ∙ u;
          })

    module _ (e : Last f ≡ get_or entries_of i no_entry) where
      last_form : form_at i ≡ last (field_of f)
      last_form = form_last i left_inside f (sym e)

      pub fits_last : fits_field (field_of f) at v ≡ true
      fits_last = subst (λ (a : Form). fits a at v ≡ true) last_form l.ok

      pub left_last : (q : Pen) → q ≡ put_all (TAB ∷ write_field (field_of f) n at v) p → q ≡ whole
      unfolding write_by tails
      left_last q g =
          let u : put_all (tails TAB (write_by (last (field_of f)) n at v)) p ≡ whole =
          subst (λ (a : Form). put_all (tails TAB (write_by a n at v)) p ≡ whole) last_form l.put in
          g ∙ (rw (append-nil (write_field (field_of f) n at v)) at u)

-- ---- the letter in front, and LF

pub line_put : (r : Record) (k n from : ℕ) (v : List ℤ) (p p0 p1 q : Pen) → k ≡ name r → p0 ≡ put_byte k p
    → p1 ≡ put_all (tails TAB (write_by (form r n) n from v)) p0
    → q ≡ put_byte LF p1 → q ≡ put_all (with_lf (line_at r n from v)) p
unfolding with_lf line_at joined put_all
line_put r k n from v p p0 p1 q e a b c =
    let fs : List ℕ = tails TAB (write_by (form r n) n from v) in
    c ∙ ap (put_byte LF) (b ∙ ap (put_all fs) (a ∙ ap (λ (m : ℕ). put_byte m p) e)) ∙ sym (all_append fs (LF ∷ []) (put_byte (name r) p))
