-- The kinds of record: a row of a kind, the loop over its rows, and the loop over the kinds. Assumes nothing.
use Prim.Native.Nat.{ℕ, ◌+◌, ◌*◌, ◌<◌, ◌≤◌}
use mathlib.Core.Path.{◌≡◌, refl, sym, ap, ◌∙◌}
use mathlib.Core.Bool.{Bool, true, false, not, ◌&&◌}
use mathlib.Core.List.{List, []}
use native.Mathlib.Omega.{arith}
use lib.IntN.{ℤ}
use lib.ListN.{length, get_or, drop}
use Rattle.sizes.specs.Sizes.{EVENTS}
use Rattle.numbers.specs.Reference.{NOWHERE}
use Rattle.meaning.specs.Grammar.{Record, s_record, v_record, e_record, t_record, a_record, no_record, ORDER, most, row_size}
use Rattle.meaning.specs.Lists.{every, every_from}
use Rattle.meaning.specs.Value.{counted, laid, PARTS, place, num, how_many, rows_of, count_fits, statable, part_fits}
use Rattle.chart_rows.proofs.Rows.{length_chunks, num_first}
use Rattle.rules.specs.Clauses.{row_in, kind_fits}
use Rattle.rules.proofs.Tests.{refuted, held}
use Rattle.rules.proofs.Every.{every_stop, every_next, every_done, placed_stop, placed_next, placed_done}
use Rattle.rules.proofs.Letters.{row_of}

-- ---- a row

pub event_said : (v : List ℤ) (i : ℕ) {t : Bool} → t ≡ count_fits 0 EVENTS (num v (2 + i)) → t ≡ statable e_record i (row_in e_record i v)
unfolding statable
event_said v i f = let z : 2 + i * 1 ≡ 2 + i = omega arith in f ∙ rw (num_first 1 (2 + i * 1) v (omega arith), z)

-- ---- the loop over the rows of a kind

module _ (v : List ℤ) (r : Record) (n i : ℕ) (e : n ≡ how_many v r) where
  long : length (rows_of v r) ≡ n
  unfolding rows_of
  long = length_chunks (how_many v r) (row_size r) (drop (place (laid r)) v) ∙ sym e

  pub rows_end : {b : Bool} → n ≤ i → every_from (statable r) i (drop i (rows_of v r)) ≡ b → true ≡ b
  rows_end h g = placed_done (statable r) (rows_of v r) [] i (rw long h) g

  module _ (t : Bool) (h : i < n) (f : t ≡ statable r i (row_in r i v)) where
    here : t ≡ statable r i (get_or (rows_of v r) i [])
    unfolding rows_of
    here = f ∙ ap (statable r i) (sym (row_of (how_many v r) (row_size r) (place (laid r)) v i (rw e at h)))

    pub row_stops : {b : Bool} → not t ≡ true → every_from (statable r) i (drop i (rows_of v r)) ≡ b → false ≡ b
    row_stops z g = placed_stop (statable r) (rows_of v r) [] i (rw long h) (refuted here z) g

    pub row_goes : {b : Bool} → not t ≡ false → every_from (statable r) i (drop i (rows_of v r)) ≡ b
        → every_from (statable r) (i + 1) (drop (i + 1) (rows_of v r)) ≡ b
    row_goes z g = placed_next (statable r) (rows_of v r) [] i (rw long h) (held here z) g

-- ---- the count of a kind

pub few : (r : Record) → most r < NOWHERE
few s_record = omega arith
few v_record = omega arith
few e_record = omega arith
few t_record = omega arith
few a_record = omega arith
few no_record = omega arith

-- ---- the loop over the kinds

and_no : (b : Bool) → b && false ≡ false
and_no true = refl
and_no false = refl

pub all_kinds : (v : List ℤ) → every (kind_fits v) ORDER ≡ every (part_fits v) PARTS
unfolding every
all_kinds v =
    go (part_fits v (counted s_record)) (part_fits v (counted v_record)) (part_fits v (laid e_record)) (part_fits v (counted t_record))
    (part_fits v (counted a_record)) (part_fits v (laid s_record)) (part_fits v (laid v_record)) (part_fits v (laid t_record))
    (part_fits v (laid a_record))
  where
    go : (s x e t a ss vs ts qs : Bool) → (s && ss) && ((x && vs) && (e && ((t && ts) && ((a && qs) && true))))
        ≡ s && (x && (e && (t && (a && (ss && (vs && (ts && (qs && true))))))))
    go false x e t a ss vs ts qs = refl
    go true false e t a ss vs ts qs = and_no ss
    go true true false t a ss vs ts qs = rw (and_no vs) (and_no ss)
    go true true true false a ss vs ts qs = rw (and_no vs) (and_no ss)
    go true true true true false ss vs ts qs = rw (and_no ts, and_no vs) (and_no ss)
    go true true true true true ss vs ts qs = refl

module _ (v : List ℤ) (i : ℕ) {b : Bool} (g : every (kind_fits v) (drop i ORDER) ≡ b) where
  module _ (h : i < length ORDER) (r : Record) (e : r ≡ get_or ORDER i no_record) (t : Bool) (f : t ≡ kind_fits v r) where
    pub kind_stops : not t ≡ true → false ≡ b
    kind_stops z = every_stop (kind_fits v) ORDER no_record i h (refuted (f ∙ ap (kind_fits v) e) z) g

    pub kind_goes : not t ≡ false → every (kind_fits v) (drop (i + 1) ORDER) ≡ b
    kind_goes z = every_next (kind_fits v) ORDER no_record i h (held (f ∙ ap (kind_fits v) e) z) g

  pub kinds_end : length ORDER ≤ i → true ≡ b
  kinds_end h = every_done (kind_fits v) ORDER no_record i h g
