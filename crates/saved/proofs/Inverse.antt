-- Numbers and states both ways: a state that was saved is loaded as it was, whatever follows its numbers; numbers that state a widget are
-- those of the state that they give. In the order: parts of a list; a saved state, its length and its parts; the two ways round.
-- Assumes nothing.
use mathlib.Core.Path.{◌≡◌, refl, sym, ap, ◌∙◌}
use mathlib.Core.Bool.{Bool, true, false, not, cond, ◌&&◌}
use mathlib.Core.List.{List, [], ◌∷◌, ◌++◌, append_assoc, map}
use Prim.Native.Nat.{ℕ, ◌*◌, ◌<◌, ◌≤◌}
use native.Mathlib.Omega.{arith}
use borrow.Author.Tests.{lt-ltb, le-ltb, le-leb, leb-true, not-true}
use lib.Dec.{leb}
use lib.IntN.{ℤ, pos, negsuc}
use lib.Signed.{lt_z}
use lib.ListN.{length, get_or, take, drop, take-append-drop, length-append, length-map, length-drop}
use lib.Seq.{take_at, drop_at, get_or_at, take-add, length-take-le, get_or-take, get_or-drop}
use mir.Syntax.{w32}
use mir.Val.{SFits}
use Rattle.std.specs.Prelude.{Result, Ok, Err}
use Rattle.std.specs.Result.{OkIff, result_unwrap_or}
use Rattle.std.proofs.lemmas.Grind.{common_steps}
use Rattle.sizes.specs.Sizes.{STATES, VARIABLES, QUEUE, STATE_NUMBERS}
use Rattle.numbers.specs.Reference.{ref, NOWHERE}
use Rattle.queue.specs.declared.Item.{Item}
use Rattle.queue.specs.Numbers.{QUEUE_NUMBERS, places, item_numbers, queue_by, numbers_of}
use Rattle.queue.proofs.Numbers.{held_lent, lent_held, flat_long}
use Rattle.meaning.specs.declared.State.{State}
use Rattle.meaning.specs.Lists.{every}
use Rattle.laws.proofs.Lists.{and_left, and_right}
use Rattle.invariants.specs.Good.{Sized}
use Rattle.promises.specs.Saved.{MARKS, SLOTS_AT, VARS_AT, LENGTH_AT, mark, small, saved, part, is_mark, is_set}
use Rattle.promises.specs.Saved.{states_widget, stated, widget_of, stored, moved_on}
use Rattle.saved.proofs.Marks.{set_mark, set_marks, marks_fit, mark_fits, marks_set}

-- ---- parts

part_of : (a p r : List ℤ) (at n : ℕ) → length a ≡ at → length p ≡ n → part at n (a ++ (p ++ r)) ≡ p
unfolding part
part_of a p r at n h k = rw (drop_at a (p ++ r) at h) (take_at p r n k)

places_back : (xs : List Item) → places (item_numbers xs) ≡ xs
unfolding queue_by numbers_of
places_back xs = ap (λ q. q.items) (held_lent (record { len = 0; items = xs }) (omega arith))

flat_back : (ns : List ℤ) → length ns ≡ 2 * QUEUE → item_numbers (places ns) ≡ ns
unfolding queue_by numbers_of
flat_back ns h = ap (drop 1) (lent_held 0 ns (omega arith) h)

-- ---- a count as a number

pub small_is : (n : ℕ) → n < NOWHERE → small n ≡ pos n
unfolding small
small_is n h = rw (lt-ltb n NOWHERE h)

-- a conversion that may fail, and what stands for a failure
pub small_from : (n : ℕ) {E : Type 0} (r : Result ℤ E) → OkIff r (SFits w32 (pos n)) (pos n) → result_unwrap_or r (negsuc 0) ≡ small n
unfolding small
small_from n (Ok x) (f, e) = e ∙ sym (small_is n f.sfits)
small_from n (Err x) f = rw (le-ltb n NOWHERE (grind (arith, common_steps)))

not_below_0 : (n : ℕ) → lt_z (pos n) (pos 0) ≡ false
not_below_0 n = le-ltb n 0 (omega arith)

small_ref : (x : ℤ) → lt_z x (pos 0) ≡ false → ref x < NOWHERE → small (ref x) ≡ x
small_ref (pos n) s h = small_is n h
small_ref (negsuc n) s h = absurd (omega arith)

-- ---- a saved state

module _ (u : State) (z : Sized u) where
  abbrev head : List ℤ
  head = mark u.started ∷ map mark u.active

  abbrev tail : List ℤ
  tail = small u.queue.len ∷ item_numbers u.queue.items

  head_long : length head ≡ MARKS
  head_long = let h = length-map u.active mark in omega (arith, z.active)

  tail_long : length tail ≡ QUEUE_NUMBERS
  tail_long = let h = flat_long u.queue.items in omega (arith, z.items)

  slots_long : length (head ++ u.slots) ≡ VARS_AT
  slots_long = length-append head u.slots ∙ rw (head_long, z.slots)

  vars_long : length (head ++ u.slots ++ u.vars) ≡ LENGTH_AT
  vars_long = length-append (head ++ u.slots) u.vars ∙ rw (slots_long, z.vars)

  pub saved_long : length (saved u) ≡ STATE_NUMBERS
  unfolding saved
  saved_long = length-append (head ++ u.slots ++ u.vars) tail ∙ rw (vars_long, tail_long)

  module _ (rest : List ℤ) where
    abbrev ns : List ℤ
    ns = saved u ++ rest

    head_first : ns ≡ head ++ (u.slots ++ (u.vars ++ (tail ++ rest)))
    unfolding saved
    head_first = simp append_assoc

    slots_first : ns ≡ (head ++ u.slots) ++ (u.vars ++ (tail ++ rest))
    unfolding saved
    slots_first = simp append_assoc

    vars_first : ns ≡ (head ++ u.slots ++ u.vars) ++ (tail ++ rest)
    unfolding saved
    vars_first = append_assoc (head ++ u.slots ++ u.vars) tail rest

    slots_part : part SLOTS_AT STATES ns ≡ u.slots
    slots_part = rw head_first (part_of head u.slots (u.vars ++ (tail ++ rest)) SLOTS_AT STATES head_long z.slots)

    vars_part : part VARS_AT VARIABLES ns ≡ u.vars
    vars_part = rw slots_first (part_of (head ++ u.slots) u.vars (tail ++ rest) VARS_AT VARIABLES slots_long z.vars)

    queue_part : part LENGTH_AT QUEUE_NUMBERS ns ≡ tail
    queue_part = rw vars_first (part_of (head ++ u.slots ++ u.vars) tail rest LENGTH_AT QUEUE_NUMBERS vars_long tail_long)

    active_part : part 1 STATES ns ≡ map mark u.active
    unfolding part
    active_part =
        rw head_first
        (take_at (map mark u.active) (u.slots ++ (u.vars ++ (tail ++ rest))) STATES (length-map u.active mark ∙ z.active))

    marks_part : take MARKS ns ≡ head
    marks_part = rw head_first (take_at head (u.slots ++ (u.vars ++ (tail ++ rest))) MARKS head_long)

    length_part : get_or ns LENGTH_AT (pos 0) ≡ small u.queue.len
    length_part =
        rw vars_first
        (get_or_at (head ++ u.slots ++ u.vars) (small u.queue.len) (item_numbers u.queue.items ++ rest) (pos 0) LENGTH_AT vars_long)

    first_part : get_or ns 0 (pos 0) ≡ mark u.started
    first_part = rw head_first refl

    queue_back : u.queue.len < NOWHERE → queue_by tail ≡ u.queue
    unfolding queue_by
    queue_back h = rw (small_is u.queue.len h, places_back u.queue.items)

    saved_states : u.queue.len < NOWHERE → states_widget ns ≡ true
    unfolding states_widget every
    saved_states h =
        let l = length-append (saved u) rest in
        let k = saved_long in
        rw (
          le-leb STATE_NUMBERS (length ns) (omega arith),
          length_part,
          small_is u.queue.len h,
          not_below_0 u.queue.len,
          marks_part,
          mark_fits u.started,
        ) (marks_fit u.active)

    -- a state that was saved is loaded as it was
    pub loaded : u.queue.len < NOWHERE → widget_of ns ≡ u
    unfolding widget_of stated
    loaded h =
        rw (
          saved_states h,
          first_part,
          set_mark u.started,
          active_part,
          set_marks u.active,
          slots_part,
          vars_part,
          queue_part,
          queue_back h,
        )

-- ---- numbers that state a widget

module _ (ns : List ℤ) (h : states_widget ns ≡ true) where
  abbrev long : Bool
  long = leb STATE_NUMBERS (length ns)

  abbrev counted : Bool
  counted = not (lt_z (get_or ns LENGTH_AT (pos 0)) (pos 0))

  abbrev marked : Bool
  marked = every is_mark (take MARKS ns)

  pub enough : STATE_NUMBERS ≤ length ns
  unfolding states_widget
  enough = leb-true STATE_NUMBERS (length ns) (and_left long counted (and_left (long && counted) marked h))

  all_marks : every is_mark (take MARKS ns) ≡ true
  unfolding states_widget
  all_marks = and_right (long && counted) marked h

  not_below : lt_z (get_or ns LENGTH_AT (pos 0)) (pos 0) ≡ false
  unfolding states_widget
  not_below = not-true _ (and_right long counted (and_left (long && counted) marked h))

  -- the parts one after the other
  in_parts : take STATE_NUMBERS ns
      ≡ take MARKS ns ++ part SLOTS_AT STATES ns ++ part VARS_AT VARIABLES ns ++ part LENGTH_AT QUEUE_NUMBERS ns
  unfolding part
  in_parts =
      take-add LENGTH_AT QUEUE_NUMBERS ns
      ∙ ap (λ l. l ++ take QUEUE_NUMBERS (drop LENGTH_AT ns))
      (take-add VARS_AT VARIABLES ns ∙ ap (λ l. l ++ take VARIABLES (drop VARS_AT ns)) (take-add SLOTS_AT STATES ns))

  -- the marks
  head_back : (xs : List ℤ) → every is_mark (take MARKS xs) ≡ true → 1 ≤ length xs
      → mark (is_set (get_or xs 0 (pos 0))) ∷ map mark (map is_set (part 1 STATES xs)) ≡ take MARKS xs
  unfolding part
  head_back [] e l = absurd (omega arith)
  head_back (x ∷ xs) e l = marks_set (x ∷ take STATES xs) e

  -- the queue
  tail_back : (xs : List ℤ) → length xs ≡ QUEUE_NUMBERS → lt_z (get_or xs 0 (pos 0)) (pos 0) ≡ false → ref (get_or xs 0 (pos 0)) < NOWHERE
      → small (queue_by xs).len ∷ item_numbers (queue_by xs).items ≡ xs
  unfolding queue_by
  tail_back [] l e f = absurd (omega arith)
  tail_back (x ∷ xs) l e f = rw (small_ref x e f, flat_back xs (omega arith))

  queue_long : length (part LENGTH_AT QUEUE_NUMBERS ns) ≡ QUEUE_NUMBERS
  unfolding part
  queue_long = let k = enough in length-take-le QUEUE_NUMBERS (drop LENGTH_AT ns) (rw length-drop (omega arith))

  queue_first : get_or (part LENGTH_AT QUEUE_NUMBERS ns) 0 (pos 0) ≡ get_or ns LENGTH_AT (pos 0)
  unfolding part
  queue_first = get_or-take QUEUE_NUMBERS (drop LENGTH_AT ns) 0 (pos 0) (omega arith) ∙ get_or-drop LENGTH_AT ns 0 (pos 0)

  is_stated : widget_of ns ≡ stated ns
  unfolding widget_of
  is_stated = rw h

  stated_back : ref (get_or ns LENGTH_AT (pos 0)) < NOWHERE → saved (stated ns) ≡ take STATE_NUMBERS ns
  unfolding saved stated
  stated_back f =
      let k = enough in
      let q = part LENGTH_AT QUEUE_NUMBERS ns in
      ap (λ m. m ++ part SLOTS_AT STATES ns ++ part VARS_AT VARIABLES ns ++ (small (queue_by q).len ∷ item_numbers (queue_by q).items))
      (head_back ns all_marks (omega arith))
      ∙ ap (λ t. take MARKS ns ++ part SLOTS_AT STATES ns ++ part VARS_AT VARIABLES ns ++ t)
      (tail_back q queue_long (rw queue_first not_below) (rw queue_first f))
      ∙ sym in_parts

  -- numbers that state a widget are those of the state that they give
  pub saved_back : ref (get_or ns LENGTH_AT (pos 0)) < NOWHERE → saved (widget_of ns) ≡ take STATE_NUMBERS ns
  saved_back f = ap saved is_stated ∙ stated_back f

  -- storing what was loaded changes nothing
  pub stored_back : ref (get_or ns LENGTH_AT (pos 0)) < NOWHERE → stored (widget_of ns) ns ≡ ns
  unfolding stored
  stored_back f =
      rw (le-ltb (length ns) STATE_NUMBERS enough, saved_back f) (take-append-drop STATE_NUMBERS ns)

-- a replay that is refused before its first event is posted leaves every number as it was
pub unmoved : (ns : List ℤ) → ref (get_or ns LENGTH_AT (pos 0)) < NOWHERE → moved_on (widget_of ns) ns ≡ ns
unfolding moved_on
unmoved ns f = go (states_widget ns) refl
  where
    go : (t : Bool) → states_widget ns ≡ t → cond t (stored (widget_of ns) ns) ns ≡ ns
    go true e = stored_back ns e f
    go false e = refl
