-- Laws of the order of records: its turn and its place in the order; a line in its place is read as its kind
-- says, any other is wrong; what is counted after it. Assumes nothing.
use mathlib.Core.Path.{◌≡◌, refl, sym, ◌∙◌}
use mathlib.Core.Bool.{Bool, true, false, true≢false, ◌&&◌}
use mathlib.Core.List.{List, [], ◌∷◌}
use Prim.Native.Nat.{ℕ, ◌+◌, ◌*◌, ◌≤◌, ◌<◌}
use native.Mathlib.Omega.{arith}
use native.Mathlib.Nat.{mul-le-mul_right}
use lib.Dec.{eqb}
use lib.IntN.{ℤ, pos}
use lib.ListN.{length, set}
use lib.Seq.{set_out}
use mir.Syntax.{w32}
use mir.Val.{to_z, of_z}
use Rattle.numbers.specs.Reference.{NOWHERE}
use Rattle.numbers.proofs.Laws.{back32}
use borrow.Author.Tests.{eqb-true, eq-eqb, ne_eqb}
use Rattle.laws.proofs.Lists.{and_left, and_right, and_both}
use Rattle.meaning.specs.Lists.{every, exists, has}
use Rattle.meaning.specs.Value.{counted, place, VALUE}
use Rattle.meaning.specs.Grammar.{Record, s_record, v_record, e_record, t_record, a_record, no_record, form, most, row_size}
use Rattle.meaning.specs.Grammar.{last, letter}
use Rattle.meaning.specs.Line.{line, beside, room, rest_of, read_field, read_by, in_order, line_by, line_in_order, line_of}
use Rattle.lines.proofs.MarkLaws.{worse_last}
use Rattle.forms.specs.Table.{form_at}
use Rattle.lines.specs.Took.{Took}
use Rattle.reader.specs.Order.{turn_of, place_of, Within, with_counts}
use Rattle.reader.specs.declared.order.Turns.{Turns}
use Rattle.chart_rows.specs.declared.kinds.Area.{Area}
use Rattle.chart_rows.specs.Area.{AreaOf}
use Rattle.chart_rows.proofs.Named.{within_value}

-- ---- of a kind

within_at : (t : Turns) → Within t → (r : Record) → turn_of t r ≤ most r
within_at t w s_record = w.states
within_at t w v_record = w.vars
within_at t w e_record = w.events
within_at t w t_record = w.transitions
within_at t w a_record = w.actions
within_at t w no_record = omega arith

pub place_within : (r : Record) (t : Turns) (n : ℕ) (k : Area) → Within t → n ≡ turn_of t r → AreaOf r k
    → (k.place ≤ VALUE) × (n * k.size ≤ VALUE) × (k.place + n * k.size ≤ VALUE)
place_within r t n k w e i =
    let m : turn_of t r * row_size r ≤ most r * row_size r = mul-le-mul_right (row_size r) (within_at t w r) in
    let v = within_value r in
    rw (e, i.place, i.size) (omega arith, omega arith, omega arith)

-- ---- in the order

decided : (m n : ℕ) (b : Bool) → (b ≡ true → m ≡ n) → (b ≡ false → m ≡ n → ⊥) → eqb m n ≡ b
decided m n true f g = eq-eqb m n (f refl)
decided m n false f g = ne_eqb m n (g refl)

none_two : (a b : ℕ) → eqb (a + b) 0 ≡ (eqb a 0 && eqb b 0)
none_two a b = decided (a + b) 0 (eqb a 0 && eqb b 0)
    (λ e. let x = eqb-true a 0 (and_left (eqb a 0) (eqb b 0) e) in let y = eqb-true b 0 (and_right (eqb a 0) (eqb b 0) e) in omega arith)
    (λ e h. true≢false (sym (and_both (eqb a 0) (eqb b 0) (eq-eqb a 0 (omega arith)) (eq-eqb b 0 (omega arith))) ∙ e))

module _ (t : Turns) (q : Record) where
  pub in_order_s : q ≡ s_record → eqb (t.vars + t.events + t.transitions + t.actions) 0 ≡ in_order (turn_of t) q
  unfolding in_order every exists
  in_order_s e =
      rw (e, none_two, none_two, none_two) (go (eqb t.vars 0) (eqb t.events 0) (eqb t.transitions 0) (eqb t.actions 0))
    where
      go : (v e t a : Bool) → ((v && e) && t) && a ≡ (v && (e && (t && (a && true)))) && e
      go true true true true = refl
      go true true true false = refl
      go true true false a = refl
      go true false t a = refl
      go false e t a = refl

  late : (e t a : Bool) → (e && t) && a ≡ (e && (t && (a && true))) && e
  late true true true = refl
  late true true false = refl
  late true false a = refl
  late false t a = refl

  pub in_order_v : q ≡ v_record → eqb (t.events + t.transitions + t.actions) 0 ≡ in_order (turn_of t) q
  unfolding in_order every exists
  in_order_v e = rw (e, none_two, none_two) (late (eqb t.events 0) (eqb t.transitions 0) (eqb t.actions 0))

  pub in_order_e : q ≡ e_record → eqb (t.events + t.transitions + t.actions) 0 ≡ in_order (turn_of t) q
  unfolding in_order every exists
  in_order_e e = rw (e, none_two, none_two) (go (eqb t.events 0) (eqb t.transitions 0) (eqb t.actions 0))
    where
      go : (e t a : Bool) → (e && t) && a ≡ (t && (a && true)) && e
      go true true true = refl
      go true true false = refl
      go true false a = refl
      go false true true = refl
      go false true false = refl
      go false false a = refl

  pub in_order_t : q ≡ t_record → t.events ≤ 1 → eqb (t.actions + 1) t.events ≡ in_order (turn_of t) q
  unfolding in_order every exists
  in_order_t e h = rw e (go t.actions t.events h)
    where
      go : (a e : ℕ) → e ≤ 1 → eqb (a + 1) e ≡ (eqb a 0 && true) && eqb e 1
      go a e h = decided (a + 1) e ((eqb a 0 && true) && eqb e 1)
          (λ i. let x = eqb-true a 0 (and_left (eqb a 0) true (and_left (eqb a 0 && true) (eqb e 1) i)) in
          let y = eqb-true e 1 (and_right (eqb a 0 && true) (eqb e 1) i) in omega arith)
          (λ i k. true≢false (sym (rw (eq-eqb a 0 (omega arith), eq-eqb e 1 (omega arith))) ∙ i))

  pub in_order_a : q ≡ a_record → eqb t.events 1 ≡ in_order (turn_of t) q
  unfolding in_order every exists
  in_order_a e = rw e

-- ---- a line in its place, and one out of it

module _ (q : Record) (t : Turns) (fs : List (List ℕ)) (xs : List ℤ) where
  pub misplaced : in_order (turn_of t) q ≡ false → Took (line_of q (turn_of t) fs) (place_of q t) xs 1 xs
  unfolding line_of
  misplaced h = record { mark = rw h; row = λ z. absurd (omega arith); size = refl }

  pub read_in_place : (i n m : ℕ) (k : Area) (ys : List ℤ) → in_order (turn_of t) q ≡ true → n ≡ turn_of t q → AreaOf q k
      → form_at i ≡ form q n
      → Took (beside (line (room n k.most) []) (read_by (form_at i) n (rest_of fs))) (k.place + n * k.size) xs m ys
      → Took (line_of q (turn_of t) fs) (place_of q t) xs m ys
  unfolding line_of line_by place_of
  read_in_place i n m k ys h e d f w = rw (h, ← e) (rw (f, d.most, d.place, d.size) at w)

-- ---- a line whose letter names no kind

pub no_line : (turns : Record → ℕ) (fs : List (List ℕ)) → (line_of no_record turns fs).mark ≡ 1
unfolding line_of line_by read_by read_field has
no_line turns fs = go (in_order turns no_record) (turns no_record) (rest_of fs)
  where
    form_none : (n : ℕ) (gs : List (List ℕ)) → (read_by (last (letter [])) n gs).mark ≡ 1
    form_none n [] = refl
    form_none n (f ∷ []) = refl
    form_none n (f ∷ g ∷ gs) = refl

    go : (b : Bool) (n : ℕ) (gs : List (List ℕ)) → (line_in_order b no_record n fs).mark ≡ 1
    go true n gs = worse_last (room n 0) (read_by (last (letter [])) n (rest_of fs)).mark (form_none n (rest_of fs))
    go false n gs = refl

pub line_unnamed : (q : Record) (t : Turns) (fs : List (List ℕ)) (xs : List ℤ) → no_record ≡ q
    → Took (line_of q (turn_of t) fs) (place_of q t) xs 1 xs
line_unnamed q t fs xs e = rw (← e) (record { mark = sym (no_line (turn_of t) fs); row = λ z. absurd (omega arith); size = refl })

-- ---- counted

pub count_set : (l : List ℤ) (at n : ℕ) (z : ℤ) → z ≡ pos n → n < NOWHERE → set l at (to_z w32 (of_z w32 z)) ≡ set l at (pos n)
count_set l at n z e h = rw (e, back32 (pos n) h)

pub counts_set : (t : Turns) (l a b c d : List ℤ) → a ≡ set l (place (counted s_record)) (pos t.states)
    → b ≡ set a (place (counted v_record)) (pos t.vars) → c ≡ set b (place (counted t_record)) (pos t.transitions)
    → d ≡ set c (place (counted a_record)) (pos t.actions) → d ≡ with_counts t l
unfolding with_counts
counts_set t l a b c d ea eb ec ed = rw (ed, ec, eb, ea)

pub count_none : (l : List ℤ) (at n : ℕ) → length l ≤ at → l ≡ set l at (pos n)
count_none l at n h = sym (set_out l at (pos n) h)
