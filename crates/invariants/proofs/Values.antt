-- The values and the queue of a widget as plain facts (01, answer 6), both ways; an append and a removal keep the queue so.
-- Assumes nothing.
use mathlib.Core.Path.{◌∙◌, ◌≡◌, ap, refl, subst, sym}
use mathlib.Core.Logic.{⊎_elim}
use Prim.Native.Nat.{◌+◌, ◌-◌, ◌<◌, ◌≤◌, suc, zero, ℕ}
use native.Mathlib.Omega.{arith}
use native.Mathlib.Numerals.{add-one}
use mathlib.Core.Bool.{Bool, ◌&&◌, false≢true, true}
use mathlib.Core.List.{List, [], ◌++◌, ◌∷◌}
use lib.ListN.{get_or-eq_default, drop, get_or, length, length-drop, set}
use lib.Seq.{drop-append-le, drop-cons, drop-drop, drop-set-lt, get_or-set_other, get_or-set_same}
use lib.Dec.{leb}
use lib.IntN.{pos, ℤ}
use lib.Signed.{le_z}
use borrow.Author.Tests.{le-leb, leb-true}
use Rattle.invariants.specs.Good.{Values}
use Rattle.laws.proofs.Lists.{and_both, and_left, and_right, at_every, every_append, every_at, every_replicate, le_or_lt, same_or}
use Rattle.meaning.specs.Chart.{no_var}
use Rattle.meaning.specs.Effects.{held}
use Rattle.meaning.specs.Foreign.{event_fits, is_none, item_fits, queue_fits, values_fit}
use Rattle.meaning.specs.Lists.{every}
use Rattle.meaning.specs.Rules.{within_row}
use Rattle.meaning.specs.Tree.{var_row}
use Rattle.meaning.specs.declared.chart.VarRow.{VarRow}
use Rattle.numbers.proofs.Laws.{eq_z_refl, eq_z_true}
use Rattle.numbers.proofs.Ranges.{hold_within, le_z_trans}
use Rattle.numbers.specs.Equal.{eq_z}
use Rattle.numbers.specs.Range.{within}
use Rattle.queue.proofs.Waiting.{appended_room, appended_waits, empty_waits, removed_front, removed_waits}
use Rattle.queue.specs.Queue.{appended, empty_queue, item, no_item as none_item, removed, shifted, waiting}
use Rattle.queue.specs.declared.Item.{Item}
use Rattle.queue.specs.declared.Queue.{Queue}
use Rattle.sizes.specs.Sizes.{QUEUE}

zeros : (xs : List ℤ) → every (eq_z (pos 0)) xs ≡ true → (v : ℕ) → get_or xs v (pos 0) ≡ pos 0
zeros xs e v = ⊎_elim (λ l. get_or-eq_default xs (pos 0) l)
    (λ l. sym (eq_z_true _ _ (every_at (eq_z (pos 0)) xs e v l (pos 0)))) (le_or_lt (length xs) v)

pub values_of : (vs : List VarRow) (xs : List ℤ) → values_fit vs xs ≡ true → Values vs xs
unfolding values_fit var_row
values_of [] xs e = record { inside = λ v l. absurd (omega arith); outside = λ v l. zeros xs e v }
values_of (r ∷ vs) [] e = absurd (false≢true e)
values_of (r ∷ vs) (x ∷ xs) e = go (values_of vs xs (and_right (within_row r x) (values_fit vs xs) e))
  where
    inside : Values vs xs → (v : ℕ) → v < suc (length vs) → within_row (get_or (r ∷ vs) v no_var) (get_or (x ∷ xs) v (pos 0)) ≡ true
    inside rest zero l = and_left (within_row r x) (values_fit vs xs) e
    inside rest (suc v) l = rest.inside v (omega arith)

    outside : Values vs xs → (v : ℕ) → suc (length vs) ≤ v → get_or (x ∷ xs) v (pos 0) ≡ pos 0
    outside rest zero l = absurd (omega arith)
    outside rest (suc v) l = rest.outside v (omega arith)

    go : Values vs xs → Values (r ∷ vs) (x ∷ xs)
    go rest = record { inside = inside rest; outside = outside rest }

pub values_fit_of : (vs : List VarRow) (xs : List ℤ) → length vs ≤ length xs → Values vs xs → values_fit vs xs ≡ true
unfolding values_fit var_row
values_fit_of [] xs l h = at_every (eq_z (pos 0))
    xs (pos 0) (λ v m. subst (λ z. eq_z (pos 0) z ≡ true) (sym (h.outside v (omega arith))) (eq_z_refl (pos 0)))
values_fit_of (r ∷ vs) [] l h = absurd (omega arith)
values_fit_of (r ∷ vs) (x ∷ xs) l h = and_both (within_row r x) (values_fit vs xs) (h.inside 0 (omega arith))
    (values_fit_of vs xs (omega arith)
    (record { inside = λ v m. h.inside (suc v) (omega arith); outside = λ v m. h.outside (suc v) (omega arith) }))

-- a variable takes a value of its row
pub values_set : (vs : List VarRow) (xs : List ℤ) (v : ℕ) (x : ℤ)
    → v < length vs → length vs ≤ length xs → within_row (var_row vs v) x ≡ true → Values vs xs → Values vs (set xs v x)
values_set vs xs v x l m e h = record {
  inside = λ w k. ⊎_elim
      (λ q. subst (λ y. within_row (var_row vs y) (get_or (set xs v x) y (pos 0)) ≡ true) (sym q)
      (subst (λ y. within_row (var_row vs v) y ≡ true) (sym (get_or-set_same xs v x (pos 0) (omega arith))) e))
      (λ q. subst (λ y. within_row (var_row vs w) y ≡ true) (sym (get_or-set_other xs v w x (pos 0) q)) (h.inside w k))
      (same_or w v);
  outside = λ w k. get_or-set_other xs v w x (pos 0) (λ q. omega arith) ∙ h.outside w k;
}

-- what is held lies in the row, where the row's ends are in order
pub held_in_row : (r : VarRow) (x : ℤ) → le_z r.low r.first ≡ true → le_z r.first r.high ≡ true → within_row r (held r x) ≡ true
unfolding within_row held within
held_in_row r x p q = hold_within x r.low r.high (le_z_trans r.low r.first r.high p q)

-- ---- the queue

module _ (n : ℕ) (q : Queue) (h : queue_fits n q ≡ true) where
  pub fits_len : q.len ≤ QUEUE
  unfolding queue_fits
  fits_len = leb-true _ _ (and_left (leb q.len QUEUE) (every (item_fits n) (waiting q) && every is_none (drop q.len q.items)) h)

  fits_rest : (every (item_fits n) (waiting q) && every is_none (drop q.len q.items)) ≡ true
  unfolding queue_fits
  fits_rest = and_right (leb q.len QUEUE) (every (item_fits n) (waiting q) && every is_none (drop q.len q.items)) h

  pub fits_waiting : every (item_fits n) (waiting q) ≡ true
  fits_waiting = and_left (every (item_fits n) (waiting q)) (every is_none (drop q.len q.items)) fits_rest

  pub fits_free : every is_none (drop q.len q.items) ≡ true
  fits_free = and_right (every (item_fits n) (waiting q)) (every is_none (drop q.len q.items)) fits_rest

pub fits_queue : (n : ℕ) (q : Queue) → q.len ≤ QUEUE
    → every (item_fits n) (waiting q) ≡ true → every is_none (drop q.len q.items) ≡ true → queue_fits n q ≡ true
unfolding queue_fits
fits_queue n q l w f = and_both (leb q.len QUEUE) _ (le-leb _ _ l) (and_both (every (item_fits n) (waiting q)) _ w f)

none_is : is_none none_item ≡ true
unfolding is_none
none_is = refl

pub empty_fits : (n : ℕ) → queue_fits n empty_queue ≡ true
unfolding empty_queue every
empty_fits n = fits_queue n empty_queue (omega arith)
    (subst (λ w. every (item_fits n) w ≡ true) (sym empty_waits) refl) (every_replicate is_none QUEUE none_item none_is)

module _ (n : ℕ) (q : Queue) (h : queue_fits n q ≡ true) (l : length q.items ≡ QUEUE) where
  -- an append to a queue with room
  pub appended_fits : (e a : ℤ) → event_fits n e a ≡ true → q.len < QUEUE → queue_fits n (appended q e a).queue ≡ true
  unfolding item_fits every
  appended_fits e a f m = fits_queue n (appended q e a).queue len waits free
    where
      len : (appended q e a).queue.len ≤ QUEUE
      len = subst (λ x. x.queue.len ≤ QUEUE) (sym (appended_room q e a m)) (omega arith)

      waits : every (item_fits n) (waiting (appended q e a).queue) ≡ true
      waits = subst (λ w. every (item_fits n) w ≡ true) (sym (appended_waits q e a m l))
          (every_append (item_fits n) (waiting q) (item e a ∷ []) (fits_waiting n q h) (and_both (item_fits n (item e a)) true f refl))

      after : every is_none (drop (suc q.len) q.items) ≡ true
      after = and_right (is_none (get_or q.items q.len none_item)) (every is_none (drop (suc q.len) q.items))
          (subst (λ w. every is_none w ≡ true) (drop-cons q.items q.len none_item (omega arith)) (fits_free n q h))

      free : every is_none (drop (appended q e a).queue.len (appended q e a).queue.items) ≡ true
      free = subst (λ x. every is_none (drop x.queue.len x.queue.items) ≡ true) (sym (appended_room q e a m))
          (subst (λ x. every is_none (drop x (set q.items q.len (item e a))) ≡ true) (sym (add-one q.len))
          (subst (λ w. every is_none w ≡ true) (sym (drop-set-lt (suc q.len) q.items q.len (item e a) (omega arith))) after))

  every_drop_1 : (p : Item → Bool) (xs : List Item) → every p xs ≡ true → every p (drop 1 xs) ≡ true
  unfolding every
  every_drop_1 p [] e = refl
  every_drop_1 p (x ∷ xs) e = and_right (p x) (every p xs) e

  -- a removal from a queue in which something waits
  pub removed_fits : 0 < q.len → queue_fits n (removed q).queue ≡ true
  unfolding every
  removed_fits m = fits_queue n (removed q).queue len waits free
    where
      k : q.len ≤ QUEUE
      k = fits_len n q h

      len : (removed q).queue.len ≤ QUEUE
      len = subst (λ x. x.queue.len ≤ QUEUE) (sym (removed_front q m k)) (omega (arith, k))

      waits : every (item_fits n) (waiting (removed q).queue) ≡ true
      waits = subst (λ w. every (item_fits n) w ≡ true) (sym (removed_waits q m k l))
          (every_drop_1 (item_fits n) (waiting q) (fits_waiting n q h))

      shift : drop (q.len - 1) (shifted q.items) ≡ drop q.len q.items ++ (none_item ∷ [])
      shift = drop-append-le (q.len - 1) (drop 1 q.items)
          (none_item ∷ []) (subst (λ x. q.len - 1 ≤ x) (sym (length-drop 1 q.items)) (omega (arith, k, l)))
          ∙ ap (λ w. w ++ (none_item ∷ [])) (drop-drop (q.len - 1) 1 q.items ∙ ap (λ i. drop i q.items) one_off)
        where
          one_off : 1 + (q.len - 1) ≡ q.len
          one_off = omega arith

      free : every is_none (drop (removed q).queue.len (removed q).queue.items) ≡ true
      free = subst (λ x. every is_none (drop x.queue.len x.queue.items) ≡ true) (sym (removed_front q m k))
          (subst (λ w. every is_none w ≡ true) (sym shift) (every_append is_none
          (drop q.len q.items) (none_item ∷ []) (fits_free n q h) (and_both (is_none none_item) true none_is refl)))
