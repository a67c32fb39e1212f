-- Laws of one line: what each way out of the walk over its form gives. Assumes nothing.
use Rattle.std.proofs.Common.{◌≡◌, refl, sym, ap, ◌∙◌, Bool, true, false, List, [], ◌∷◌, ◌++◌, ℕ, zero, suc, ◌+◌, ◌-◌, ◌≤◌, ◌<◌}
use Rattle.std.proofs.Common.{Option, None, Some, Result, Ok, Err, Bor, arith, eqb, length, get_or}
use Rattle.std.specs.Option.{is_some}
use lib.IntN.{ℤ}
use lib.Seq.{sets, length-sets}
use borrow.Author.Tests.{eq-eqb, ne_eqb}
use Rattle.meaning.specs.Grammar.{Field, Form, last, ◌tab◌, ◌or◌, letter}
use Rattle.meaning.specs.Lists.{has}
use Rattle.meaning.specs.Split.{split, fields}
use Rattle.meaning.specs.Line.{Line, worse, room, line, wrong, faulty, mark_of, beside, or_else, rest_of, read_field, read_by}
use Rattle.meaning.specs.declared.Fault.{Fault}
use Rattle.meaning.specs.declared.Fault.TheVariants.{Wrong, Beyond}
use Rattle.fields.specs.declared.cells.Said.{Said}
use Rattle.fields.specs.Said.{said, row_of}
use Rattle.fields.specs.Parts.{cut_of}
use Rattle.forms.specs.declared.Field.{Field as Cell}
use Rattle.forms.specs.declared.Entry.TheVariants.{Last, More, Or}
use Rattle.forms.specs.Table.{ENTRIES, field_of, entries_of, no_entry, no_form, form_at}
use Rattle.forms.proofs.TableLaws.{form_or, form_more, form_last, form_past}
use Rattle.lines.specs.Took.{Took, Taken}
use Rattle.lines.proofs.MarkLaws.{worse_last, fault_behind, right_before, room_before, room_alone, sets_behind}

-- ---- the fields of a line, from its first on
module _ (s first : List ℕ) (rest : Option (Bor (List ℕ))) (q : split 9 s ≡ cut_of 9 first rest) where
  fields_last : rest ≡ None → fields s ≡ first ∷ []
  unfolding fields
  fields_last d = rw (q, d)

  fields_more : (r : Bor (List ℕ)) → rest ≡ Some r → fields s ≡ first ∷ fields r.now
  unfolding fields
  fields_more r d = rw (q, d)

-- ---- any line: of the wrong form; of a mark that is not 0; taken
wrong_taken : (l : Line) (at : ℕ) (xs : List ℤ) → l.mark ≡ 1 → Taken l at xs 1 xs
wrong_taken l at xs e = record { took = record { mark = sym e; row = λ z. absurd (omega arith); size = refl }; kept = λ _. refl }

-- a form has no line without fields
no_fields : (a : Form) (n : ℕ) → (read_by a n []).mark ≡ 1
unfolding read_by
no_fields (last x) n = refl
no_fields (x tab a) n = refl
no_fields (a or b) n = rw (no_fields a n) (no_fields b n)

-- what is wrong has a mark of its own
never : {A : Type 0} (g : Fault) → (faulty g).mark ≡ 0 → A
never Wrong e = absurd (omega arith)
never Beyond e = absurd (omega arith)

pub none_of : {A : Type 0} (o : Option A) → false ≡ is_some o → o ≡ None
none_of None e = refl
none_of (Some x) e = cc

pub some_of : {A : Type 0} (o : Option A) → true ≡ is_some o → o ≡ None → ⊥
some_of None e h = cc
some_of (Some x) e h = cc

pub wrong_of : (o : Result Unit Fault) → mark_of o ≡ 1 → o ≡ Err Wrong
wrong_of (Ok u) e = absurd (omega arith)
wrong_of (Err Wrong) e = refl
wrong_of (Err Beyond) e = absurd (omega arith)

-- ---- the walk over the form at entry i
module _ (i n : ℕ) (fs : List (List ℕ)) (at : ℕ) (xs : List ℤ) where
  pub past_taken : ENTRIES ≤ i → Taken (read_by (form_at i) n fs) at xs 1 xs
  unfolding read_by read_field has
  past_taken h = wrong_taken (read_by (form_at i) n fs) at xs (rw (form_past i h) (go fs))
    where
      go : (fs : List (List ℕ)) → (read_by no_form n fs).mark ≡ 1
      go [] = refl
      go (f ∷ []) = refl
      go (f ∷ g ∷ fs) = refl

  module _ (h : i < ENTRIES) (k : ℕ) (ys : List ℤ) where
    module _ (e : Or k ≡ get_or entries_of i no_entry) (m : ℕ) (t : Taken (read_by (form_at (i + 1)) n fs) at xs m ys) where
      choice : form_at i ≡ form_at (i + 1) or form_at (i + 1 + k)
      choice = form_or i h k (sym e)

      pub first_taken : (m ≡ 1 → ⊥) → Taken (read_by (form_at i) n fs) at xs m ys
      unfolding read_by
      first_taken d =
          let o = ne_eqb (read_by (form_at (i + 1)) n fs).mark 1 (λ x. d (t.took.mark ∙ x)) in
          rw (choice, o) t

      pub second_taken : (r : ℕ) (zs : List ℤ) → m ≡ 1 → Taken (read_by (form_at (i + 1 + k)) n fs) at ys r zs
          → Taken (read_by (form_at i) n fs) at xs r zs
      unfolding read_by
      second_taken r zs d u =
          let o = eq-eqb (read_by (form_at (i + 1)) n fs).mark 1 (sym t.took.mark ∙ d) in
          rw (choice, o) (rw (t.kept d) at u)

-- ---- a field, and what follows
module _
    (i n : ℕ) (h : i < ENTRIES) (f : Cell) (s first : List ℕ)
    (rest : Option (Bor (List ℕ))) (q : split 9 s ≡ cut_of 9 first rest) (at : ℕ) (xs : List ℤ)
  where
    module _ (z : More f ≡ get_or entries_of i no_entry) where
      more_form : form_at i ≡ field_of f tab form_at (i + 1)
      more_form = form_more i h f (sym z)

      pub ends_early : rest ≡ None → Taken (read_by (form_at i) n (fields s)) at xs 1 xs
      unfolding read_by
      ends_early d = wrong_taken (read_by (form_at i) n (fields s)) at xs early
        where
          early : (read_by (form_at i) n (fields s)).mark ≡ 1
          early =
              rw (more_form, fields_last s first rest q d) (worse_last (read_field (field_of f) n first).mark
              (read_by (form_at (i + 1)) n []).mark (no_fields (form_at (i + 1)) n))

      module _ (v : Result Said Fault) (el : said v ≡ read_field (field_of f) n first) (r : Bor (List ℕ)) (d : rest ≡ Some r) where
        abbrev more : Line
        more = read_by (form_at (i + 1)) n (fields r.now)

        line_is : read_by (form_at i) n (fields s) ≡ beside (said v) more
        unfolding read_by
        line_is = rw (more_form, fields_more s first rest q r d, el)

        pub field_wrong : v ≡ Err Wrong → Taken (read_by (form_at i) n (fields s)) at xs 1 xs
        unfolding worse
        field_wrong w = rw (line_is, w) (wrong_taken (beside (line 1 []) more) at xs refl)

        module _ (o : Result Unit Fault) (ys : List ℤ) where
          module _ (w : v ≡ Err Beyond) (t : Taken more at xs (mark_of o) ys) where
            pub beyond_not : (g : Fault) → o ≡ Err g → Taken (read_by (form_at i) n (fields s)) at xs (faulty g).mark ys
            beyond_not g e = rw (line_is, w) (record {
              took = record { mark = fault_behind g more.mark (rw e at t.took.mark); row = λ x. never g x; size = t.took.size };
              kept = λ x. t.kept (rw e x);
            })

            pub beyond_then : (u : Unit) → o ≡ Ok u → Taken (read_by (form_at i) n (fields s)) at xs 2 ys
            unfolding worse
            beyond_then u e = rw (line_is, w) (record {
              took = record { mark = rw (← (rw e at t.took.mark)); row = λ x. absurd (omega arith); size = t.took.size };
              kept = λ x. absurd (omega arith);
            })

          module _ (p : ℕ) (x : Said) (w : v ≡ Ok x) (ep : p ≡ length (row_of x)) (t : Taken more (at + p) xs (mark_of o) ys) where
            pub more_not : (g : Fault) → o ≡ Err g → Taken (read_by (form_at i) n (fields s)) at xs (faulty g).mark ys
            more_not g e = rw (line_is, w) (record {
              took = record {
                mark = (rw e at t.took.mark) ∙ sym (right_before more.mark);
                row = λ y. never g y;
                size = t.took.size;
              };
              kept = λ y. t.kept (rw e y);
            })

            pub more_put : (u : Unit) (zs : List ℤ) → o ≡ Ok u → zs ≡ sets ys at (row_of x)
                → Taken (read_by (form_at i) n (fields s)) at xs 0 zs
            more_put u zs e g =
                let m : 0 ≡ more.mark = rw e at t.took.mark in
                let b = t.took.row (rw e refl) in
                let y : zs ≡ sets xs at (row_of x ++ more.row) =
                g ∙ ap (λ (l : List ℤ). sets l at (row_of x)) b ∙ sets_behind xs (row_of x) more.row at p ep in
                rw (line_is, w) (record {
                  took = record {
                    mark = m ∙ sym (right_before more.mark);
                    row = λ _. y;
                    size = ap length y ∙ length-sets xs at (row_of x ++ more.row);
                  };
                  kept = λ x. absurd (omega arith);
                })

    module _ (z : Last f ≡ get_or entries_of i no_entry) where
      last_form : form_at i ≡ last (field_of f)
      last_form = form_last i h f (sym z)

      pub goes_on : (rest ≡ None → ⊥) → Taken (read_by (form_at i) n (fields s)) at xs 1 xs
      unfolding read_by fields
      goes_on d = go rest refl
        where
          behind : (l : List ℕ) → (read_by (last (field_of f)) n (first ∷ fields l)).mark ≡ 1
          behind l = refl

          late : (r : Bor (List ℕ)) → rest ≡ Some r → (read_by (form_at i) n (fields s)).mark ≡ 1
          late r e = rw (last_form, fields_more s first rest q r e) (behind r.now)

          go : (o : Option (Bor (List ℕ))) → rest ≡ o → Taken (read_by (form_at i) n (fields s)) at xs 1 xs
          go None e = absurd (d e)
          go (Some r) e = wrong_taken (read_by (form_at i) n (fields s)) at xs (late r e)

      module _ (v : Result Said Fault) (el : said v ≡ read_field (field_of f) n first) (d : rest ≡ None) where
        last_is : read_by (form_at i) n (fields s) ≡ said v
        unfolding read_by
        last_is = rw (last_form, fields_last s first rest q d, el)

        pub last_not : (g : Fault) → v ≡ Err g → Taken (read_by (form_at i) n (fields s)) at xs (faulty g).mark xs
        last_not g e = rw (last_is, e) (record {
          took = record { mark = refl; row = λ x. never g x; size = refl };
          kept = λ _. refl;
        })

        pub last_put : (x : Said) (zs : List ℤ) → v ≡ Ok x → zs ≡ sets xs at (row_of x)
            → Taken (read_by (form_at i) n (fields s)) at xs 0 zs
        last_put x zs e g = rw (last_is, e) (record {
          took = record { mark = refl; row = λ _. g; size = ap length g ∙ length-sets xs at (row_of x) };
          kept = λ x. absurd (omega arith);
        })

-- ---- behind the letter
module _
    (i n most : ℕ) (s first : List ℕ) (rest : Option (Bor (List ℕ))) (q : split 9 s ≡ cut_of 9 first rest) (at : ℕ) (xs : List ℤ)
  where
    abbrev whole : Line
    whole = beside (line (room n most) []) (read_by (form_at i) n (rest_of (fields s)))

    pub letter_alone : rest ≡ None → Took whole at xs 1 xs
    letter_alone d = record { mark = sym one; row = λ x. absurd (omega arith); size = refl }
      where
        one : whole.mark ≡ 1
        one = rw (fields_last s first rest q d) (worse_last (room n most) (read_by (form_at i) n []).mark (no_fields (form_at i) n))

    module _
        (r : Bor (List ℕ)) (d : rest ≡ Some r) (o : Result Unit Fault) (ys : List ℤ)
        (t : Taken (read_by (form_at i) n (fields r.now)) at xs (mark_of o) ys)
      where
        pub line_not : (g : Fault) → o ≡ Err g → Took whole at xs (faulty g).mark ys
        line_not g e = rw (fields_more s first rest q r d) (record {
          mark = room_before n most g (read_by (form_at i) n (fields r.now)).mark (rw e at t.took.mark);
          row = λ x. never g x;
          size = t.took.size;
        })

        pub line_took : (u : Unit) (m : Result Unit Fault) → o ≡ Ok u → mark_of m ≡ room n most → Took whole at xs (mark_of m) ys
        line_took u m e w =
            let z : 0 ≡ (read_by (form_at i) n (fields r.now)).mark = rw e at t.took.mark in
            rw (fields_more s first rest q r d) (record {
              mark = w ∙ sym (room_alone n most) ∙ ap (worse (room n most)) z;
              row = λ _. t.took.row (rw e refl);
              size = t.took.size;
            })
