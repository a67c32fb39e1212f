-- The text of a chart that passes the rules is never too long: a number that names something has no more digits than the size of what it
-- names. In the order: bytes by the sizes; what the rules say of a row; lines one behind another; the text. Assumes nothing.
use mathlib.Core.Path.{◌≡◌, refl, sym, ap, ◌∙◌, subst}
use mathlib.Core.Bool.{Bool, true, false, cond, ◌&&◌, ◌||◌, false≢true, true≢false}
use mathlib.Core.List.{List, [], ◌∷◌, ◌++◌}
use mathlib.Core.Logic.{⊎_elim}
use mathlib.Core.Option.{none}
use Prim.Native.Nat.{ℕ, zero, suc, ◌+◌, ◌*◌, max, ◌≤◌, ◌<◌}
use native.Mathlib.Omega.{arith}
use native.Mathlib.Nat.{le_refl, le_trans, mul-suc, mul-le-mul_left}
use lib.IntN.{ℤ, pos}
use lib.ListN.{length, get_or, length-append, length-map}
use lib.Dec.{leb}
use borrow.Author.Tests.{leb-true}
use Rattle.sizes.specs.Sizes.{STATES, VARIABLES, EVENTS, TRANSITIONS, ACTIONS, TEXT}
use Rattle.numbers.specs.Range.{in_range}
use Rattle.numbers.specs.Reference.{ref}
use Rattle.numbers.proofs.Laws.{eq_z_true}
use Rattle.meaning.specs.Chart.{Chart, no_state, no_trans, no_action}
use Rattle.meaning.specs.declared.chart.Guard.TheVariants.{Always as always, Compares as compares}
use Rattle.meaning.specs.declared.chart.Kind.TheVariants.{O as kind_o}
use Rattle.meaning.specs.declared.chart.Owner.TheVariants.{DefaultOf as default_of, EntryOf as entry_of}
use Rattle.meaning.specs.declared.chart.Owner.TheVariants.{ExitOf as exit_of, TransitionOf as transition_of}
use Rattle.meaning.specs.declared.chart.Sign.TheVariants.{Equal as equal, Less as less, More as more}
use Rattle.meaning.specs.declared.chart.Target.TheVariants.{History as to_history, InPlace as no_target, To as to}
use Rattle.meaning.specs.Grammar.{Record, s_record, v_record, e_record, t_record, a_record, no_record, ORDER, form, most, bytes}
use Rattle.meaning.specs.Grammar.{kind, guard, target}
use Rattle.meaning.specs.Lists.{concat_map, map_from}
use Rattle.meaning.specs.Number.{digits_in, digits, numeral}
use Rattle.meaning.specs.Rules.{failing_rule}
use Rattle.meaning.specs.Split.{LF, ended}
use Rattle.meaning.specs.Line.{text_of_row}
use Rattle.meaning.specs.Text.{lines_of, text_by}
use Rattle.meaning.specs.Tree.{state_row, parent_of, kind_of, default_child, trans_row}
use Rattle.meaning.specs.Value.{Rows, num, is_letter, is_absent, one_of_letters, ref_or_none, kind_by, state_by}
use Rattle.meaning.specs.Value.{guard_by, target_by, trans_by}
use Rattle.meaning.specs.Value.{owner_by, action_by, fits, statable, chart_by, rows_of, chart_of, rule_0}
use Rattle.laws.proofs.Lists.{and_left, and_right, or_cases, every_from_at}
use Rattle.laws.proofs.Rules.{GuardFacts, TransitionFacts, OwnerFacts}
use Rattle.laws.specs.Facts.{TargetFacts}
use Rattle.laws.proofs.Sound.{SoundChart, sound_chart}
use Rattle.laws.proofs.Value.{SizedChart, sized_chart, get_d_map}
use Rattle.round_trip.proofs.Fields.{Bytes, Sized, NUMBER, short_numeral, absent_number}
use Rattle.round_trip.proofs.Forms.{most_bytes}
use Rattle.round_trip.proofs.Numbers.{digits_one, digits_grow, named_length}
use Rattle.round_trip.proofs.Records.{row_short}
use Rattle.round_trip.proofs.Shaped.{Shaped}
use Rattle.round_trip.proofs.Splits.{ended_append}
use Rattle.round_trip.proofs.Values.{value_shaped}

-- ---- bytes by the sizes

-- of the record's own number, and of the numbers of its row that name something
abbrev wide : ℕ → ℕ
wide size = length (digits size)

abbrev S_ROW : List ℕ
S_ROW = wide STATES ∷ NUMBER ∷ wide STATES ∷ []

abbrev T_ROW : List ℕ
T_ROW = wide STATES ∷ wide EVENTS ∷ wide VARIABLES ∷ NUMBER ∷ NUMBER ∷ NUMBER ∷ wide STATES ∷ []

-- an owner is a state or a transition
abbrev A_ROW : List ℕ
A_ROW = NUMBER ∷ wide (max STATES TRANSITIONS) ∷ []

abbrev widths : Record → List ℕ
widths s_record = S_ROW
widths v_record = []
widths e_record = []
widths t_record = T_ROW
widths a_record = A_ROW
widths no_record = []

-- a line and its LF
abbrev LINE : Record → ℕ
LINE r = suc (suc (most_bytes (wide (most r)) (widths r) (form r 1) 0))

-- a chart with every record of some kinds
abbrev bytes_in : List Record → ℕ
bytes_in [] = 0
bytes_in (r ∷ rs) = LINE r * most r + bytes_in rs

-- the only place where the sizes are computed with
enough : bytes_in ORDER ≤ TEXT
unfolding digits digits_in
enough = leb-true (bytes_in ORDER) TEXT refl

-- ---- what the rules say of a row

-- a guard that has a variable names one
guard_named : (c : Chart) (v g x : ℤ) (t : Bool)
    → (is_absent v && (is_absent g && (is_absent x && t))) || (in_range v && (one_of_letters (bytes "=<>") g && (in_range x && t))) ≡ true
    → GuardFacts c (guard_by v g x) → in_range v ≡ true → ref v < length c.vars
unfolding guard_by
guard_named c v g x t e f r =
    go (is_letter 61 g) (is_letter 60 g) (is_letter 62 g)
    (and_left (one_of_letters (bytes "=<>") g) (in_range x && t) (rw (absent_number v r, r) at e)) f
  where
    go : (p q s : Bool) → p || (q || (s || false)) ≡ true
        → GuardFacts c (cond p (compares (ref v) equal x) (cond q (compares (ref v) less x) (cond s (compares (ref v) more x) always)))
        → ref v < length c.vars
    go true q s e f = f
    go false true s e f = f
    go false false true e f = f
    go false false false e f = absurd (false≢true e)

-- so does a target that has a number
target_named : (c : Chart) (s : ℕ) (h x : ℤ)
    → (is_absent h && is_absent x) || ((is_letter 104 h && in_range x) || (is_letter 0 h && in_range x)) ≡ true
    → TargetFacts c s (target_by h x) → in_range x ≡ true → ref x < length c.states
unfolding target_by is_absent
target_named c s h x e f r = go (is_letter 104 h) (is_absent h) refl refl f
  where
    zero_not_absent : is_absent h ≡ true → is_letter 0 h ≡ true → ⊥
    zero_not_absent a z = let q : false ≡ true = rw (eq_z_true h (pos 0) z) at a in false≢true q

    not_in_place : is_letter 104 h ≡ false → is_absent h ≡ true → ⊥
    not_in_place n a = ⊎_elim
        (λ q. true≢false (sym (and_right (is_absent h) (is_absent x) q) ∙ absent_number x r))
        (λ q. ⊎_elim
        (λ w. true≢false (sym (and_left (is_letter 104 h) (in_range x) w) ∙ n))
        (λ w. zero_not_absent a (and_left (is_letter 0 h) (in_range x) w))
        (or_cases (is_letter 104 h && in_range x) (is_letter 0 h && in_range x) q))
        (or_cases (is_absent h && is_absent x) ((is_letter 104 h && in_range x) || (is_letter 0 h && in_range x)) e)

    go : (p q : Bool) → is_letter 104 h ≡ p → is_absent h ≡ q
        → TargetFacts c s (cond p (to_history (ref x)) (cond q no_target (to (ref x)))) → ref x < length c.states
    go true q n a f = f.0
    go false false n a f = f.0
    go false true n a f = absurd (not_in_place n a)

owner_named : (c : Chart) (k n : ℤ) → OwnerFacts c (owner_by k n) → ref n < max (length c.states) (length c.transitions)
unfolding owner_by
owner_named c k n f = go (is_letter 101 k) (is_letter 120 k) (is_letter 100 k) f
  where
    go : (p q s : Bool)
        → OwnerFacts c (cond p (entry_of (ref n)) (cond q (exit_of (ref n)) (cond s (default_of (ref n)) (transition_of (ref n)))))
        → ref n < max (length c.states) (length c.transitions)
    go true q s f = omega arith
    go false true s f = omega arith
    go false false true f = let l = f.0 in omega arith
    go false false false f = omega arith

-- a reference that is a number is not absent
reference_is : (z : ℤ) → in_range z ≡ true → ref_or_none z ≡ ref z
unfolding ref_or_none
reference_is z e = rw (absent_number z e)

-- a state that has a default is of kind o
default_of_o : (k z : ℤ) → (one_of_letters (bytes "o") k && in_range z) || (one_of_letters (bytes "ab") k && is_absent z) ≡ true
    → in_range z ≡ true → kind_by k ≡ kind_o
unfolding kind_by
default_of_o k z e r = go (is_letter 111 k) (one_of_letters (bytes "ab") k) refl (rw (absent_number z r, r) at e)
  where
    go : (p q : Bool) → is_letter 111 k ≡ p → ((p || false) && true) || (q && false) ≡ true → kind_by k ≡ kind_o
    go true q h e = rw h
    go false true h e = absurd (false≢true e)
    go false false h e = absurd (false≢true e)

module _ (r : Rows) (sound : SoundChart (chart_by r)) (sized : SizedChart (chart_by r)) where
  abbrev c : Chart
  c = chart_by r

  -- states

  module _ (i : ℕ) (l : i < length (r s_record)) where
    abbrev s_row : List ℤ
    s_row = get_or (r s_record) i []

    state_at : state_row c i ≡ state_by s_row
    unfolding state_row chart_by
    state_at = get_d_map state_by (r s_record) i no_state [] l

    state_in : i < STATES
    unfolding chart_by
    state_in = omega (arith, sized.states, length-map (r s_record) state_by)

    parent_is : in_range (num s_row 0) ≡ true → parent_of c i ≡ ref (num s_row 0)
    unfolding parent_of state_by
    parent_is h = ap (λ x. x.parent) state_at ∙ reference_is (num s_row 0) h

    default_is : in_range (num s_row 2) ≡ true → default_child c i ≡ ref (num s_row 2)
    unfolding default_child state_by
    default_is h = ap (λ x. x.default) state_at ∙ reference_is (num s_row 2) h

    kind_is : kind_of c i ≡ kind_by (num s_row 1)
    unfolding kind_of state_by
    kind_is = ap (λ x. x.kind) state_at

  -- the root has no parent, and the parent of another comes before it
  parent_named : (i : ℕ) (l : i < length (r s_record)) → statable s_record i (s_row i l) ≡ true → in_range (num (s_row i l) 0) ≡ true
      → ref (num (s_row i l) 0) ≤ STATES
  unfolding statable
  parent_named zero l e h =
      let a = and_left (is_absent (num (s_row 0 l) 0)) (fits kind 1 (s_row 0 l)) e in
      absurd (true≢false (sym a ∙ absent_number (num (s_row 0 l) 0) h))
  parent_named (suc i) l e h = omega (arith, parent_is (suc i) l h, sound.ordered.falls i, state_in (suc i) l)

  kind_fits : (i : ℕ) (row : List ℤ) → statable s_record i row ≡ true → fits kind 1 row ≡ true
  unfolding statable
  kind_fits zero row e = and_right (is_absent (num row 0)) (fits kind 1 row) e
  kind_fits (suc i) row e = and_right (in_range (num row 0)) (fits kind 1 row) e

  default_named : (i : ℕ) (l : i < length (r s_record)) → statable s_record i (s_row i l) ≡ true → in_range (num (s_row i l) 2) ≡ true
      → ref (num (s_row i l) 2) ≤ STATES
  default_named i l e h =
      let o = kind_is i l ∙ default_of_o (num (s_row i l) 1) (num (s_row i l) 2) (kind_fits i (s_row i l) e) h in
      omega (arith, default_is i l h, (sound.default i o).1, sized.states)

  s_sized : (i : ℕ) (l : i < length (r s_record)) → statable s_record i (s_row i l) ≡ true → Sized S_ROW 0 (s_row i l)
  s_sized i l e = (parent, (short_numeral (num row 1), (default, tt)))
    where
      row : List ℤ
      row = s_row i l

      parent : Bytes (wide STATES) (num row 0)
      parent h = named_length (num row 0) STATES (parent_named i l e h) (omega arith)

      default : Bytes (wide STATES) (num row 2)
      default h = named_length (num row 2) STATES (default_named i l e h) (omega arith)

  -- transitions

  module _ (i : ℕ) (l : i < length (r t_record)) where
    abbrev t_row : List ℤ
    t_row = get_or (r t_record) i []

    t_facts : TransitionFacts c (trans_by t_row)
    unfolding trans_row chart_by
    t_facts =
        subst (TransitionFacts c) (get_d_map trans_by (r t_record) i no_trans [] l)
        (sound.transitions i (omega (arith, length-map (r t_record) trans_by, l)))

    module _ (e : statable t_record i t_row ≡ true) where
      guarded : fits guard 2 t_row ≡ true
      unfolding statable
      guarded =
          and_right (in_range (num t_row 1)) (fits guard 2 t_row)
          (and_right (in_range (num t_row 0)) (in_range (num t_row 1) && fits guard 2 t_row) e)

      aimed : fits target 5 t_row ≡ true
      aimed =
          go (is_absent (num t_row 2)) (is_absent (num t_row 3)) (is_absent (num t_row 4)) (in_range (num t_row 2))
          (one_of_letters (bytes "=<>") (num t_row 3)) (in_range (num t_row 4)) (fits target 5 t_row) guarded
        where
          -- in either form of a guard the target follows
          last : (a b d t : Bool) → a && (b && (d && t)) ≡ true → t ≡ true
          last a b d t e = and_right d t (and_right b (d && t) (and_right a (b && (d && t)) e))

          go : (a b d p q s t : Bool) → (a && (b && (d && t))) || (p && (q && (s && t))) ≡ true → t ≡ true
          go a b d p q s t e = ⊎_elim (last a b d t) (last p q s t) (or_cases (a && (b && (d && t))) (p && (q && (s && t))) e)

      t_sized : Sized T_ROW 0 t_row
      unfolding trans_by
      t_sized = (source, (trigger, (variable, (constant 3, (constant 4, (constant 5, (aim, tt)))))))
        where
          constant : (k : ℕ) → Bytes NUMBER (num t_row k)
          constant k = short_numeral (num t_row k)

          source : Bytes (wide STATES) (num t_row 0)
          source h = named_length (num t_row 0) STATES (omega (arith, t_facts.source, sized.states)) (omega arith)

          trigger : Bytes (wide EVENTS) (num t_row 1)
          trigger h = named_length (num t_row 1) EVENTS (omega (arith, t_facts.trigger, sized.events)) (omega arith)

          variable : Bytes (wide VARIABLES) (num t_row 2)
          variable h =
              let named = guard_named c (num t_row 2) (num t_row 3) (num t_row 4) (fits target 5 t_row) guarded t_facts.guard h in
              named_length (num t_row 2) VARIABLES (omega (arith, named, sized.vars)) (omega arith)

          aim : Bytes (wide STATES) (num t_row 6)
          aim h =
              let named = target_named c (ref (num t_row 0)) (num t_row 5) (num t_row 6) aimed t_facts.target h in
              named_length (num t_row 6) STATES (omega (arith, named, sized.states)) (omega arith)

  -- actions

  module _ (i : ℕ) (l : i < length (r a_record)) where
    abbrev a_row : List ℤ
    a_row = get_or (r a_record) i []

    a_facts : OwnerFacts c (owner_by (num a_row 0) (num a_row 1))
    unfolding action_by chart_by
    a_facts =
        subst (λ x. OwnerFacts c x.owner) (get_d_map action_by (r a_record) i no_action [] l)
        (sound.owners i (omega (arith, length-map (r a_record) action_by, l)))

    a_sized : Sized A_ROW 0 a_row
    a_sized = (short_numeral (num a_row 0), (owner, tt))
      where
        owner : Bytes (wide (max STATES TRANSITIONS)) (num a_row 1)
        owner h =
            let named = owner_named c (num a_row 0) (num a_row 1) a_facts in
            named_length (num a_row 1) (max STATES TRANSITIONS) (omega (arith, named, sized.states, sized.transitions)) (omega arith)

-- ---- lines one behind another

lines_short : (f : ℕ → List ℤ → List ℕ) (b k : ℕ) (xs : List (List ℤ))
    → ((i : ℕ) → i < length xs → suc (length (f (k + i) (get_or xs i []))) ≤ b) → length (ended (map_from f k xs)) ≤ b * length xs
unfolding ended map_from
lines_short f b k [] h = omega arith
lines_short f b k (x ∷ xs) h =
    let z : k + 0 ≡ k = omega arith in
    let first : suc (length (f k x)) ≤ b = rw z at (h 0 (omega arith)) in
    let rest = lines_short f b (suc k) xs (λ i l. let y : suc k + i ≡ k + suc i = omega arith in rw y (h (suc i) (omega arith))) in
    let m : b * suc (length xs) ≡ b * length xs + b = mul-suc b (length xs) in
    rw (length-append (f k x) (LF ∷ ended (map_from f (suc k) xs))) (omega arith)

-- records of one kind, at most so many of them
kind_short : (f : ℕ → List ℤ → List ℕ) (b most : ℕ) (xs : List (List ℤ))
    → ((i : ℕ) → i < length xs → suc (length (f i (get_or xs i []))) ≤ b) → length xs ≤ most → length (ended (map_from f 0 xs)) ≤ b * most
kind_short f b most xs h few =
    le_trans (lines_short f b 0 xs (λ i l. let z : 0 + i ≡ i = omega arith in rw z (h i l))) (mul-le-mul_left b few)

-- ---- the text

turn_short : (size i : ℕ) → i < size → length (numeral (pos i)) ≤ wide size
unfolding numeral
turn_short size i l = digits_grow size i (omega arith)

wide_one : (size : ℕ) → 1 ≤ wide size
wide_one size = omega (arith, digits_grow size 0 (omega arith), ap length (digits_one 0 (omega arith)))

-- the first record of a kind is not longer than the others
first_short : (q : Record) (i : ℕ) → most_bytes (wide (most q)) (widths q) (form q i) 0 ≤ most_bytes (wide (most q)) (widths q) (form q 1) 0
first_short s_record zero = omega (arith, wide_one STATES)
first_short s_record (suc i) = le_refl _
first_short v_record i = le_refl _
first_short e_record i = le_refl _
first_short t_record i = le_refl _
first_short a_record i = le_refl _
first_short no_record i = le_refl _

module _ (r : Rows) (shaped : Shaped r) (sound : SoundChart (chart_by r)) (sized : SizedChart (chart_by r)) where
  row_sized : (q : Record) (i : ℕ) → i < length (r q) → statable q i (get_or (r q) i []) ≡ true → Sized (widths q) 0 (get_or (r q) i [])
  row_sized s_record i l e = s_sized r sound sized i l e
  row_sized v_record i l e = tt
  row_sized e_record i l e = tt
  row_sized t_record i l e = t_sized r sound sized i l e
  row_sized a_record i l e = a_sized r sound sized i l
  row_sized no_record i l e = tt

  line_short : (q : Record) (i : ℕ) → i < length (r q) → suc (length (text_of_row q i (get_or (r q) i []))) ≤ LINE q
  unfolding statable
  line_short q i l =
      let z : 0 + i ≡ i = omega arith in
      let e = rw z at (every_from_at (statable q) 0 (r q) (shaped.fitting q).ok i l []) in
      let n : i < most q = omega (arith, l, (shaped.fitting q).few) in
      let b = row_short q i (get_or (r q) i []) e n (wide (most q)) (widths q) (turn_short (most q) i n) (row_sized q i l e) in
      omega (arith, b, first_short q i)

  lines_few : (qs : List Record) → length (ended (concat_map (lines_of r) qs)) ≤ bytes_in qs
  unfolding concat_map ended
  lines_few [] = omega arith
  lines_few (q ∷ qs) =
      let k = kind_short (text_of_row q) (LINE q) (most q) (r q) (line_short q) (shaped.fitting q).few in
      rw (
        ended_append (lines_of r q) (concat_map (lines_of r) qs),
        length-append (ended (lines_of r q)) (ended (concat_map (lines_of r) qs)),
      )
      (omega (arith, k, lines_few qs))

  rows_short : length (text_by r) ≤ TEXT
  unfolding text_by
  rows_short = le_trans (lines_few ORDER) enough

pub text_short : (v : List ℤ) → rule_0 v ≡ true → failing_rule (chart_by (rows_of v)) ≡ none → length (text_by (rows_of v)) ≤ TEXT
unfolding chart_of
text_short v keeps rest = rows_short (rows_of v) (value_shaped v keeps) (sound_chart (chart_by (rows_of v)) rest) (sized_chart v keeps)
