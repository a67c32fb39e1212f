-- What the functions that store a state cite: the marks written one by one, the queue's numbers with its own length, the parts one after
-- the other, numbers that stay. Assumes nothing.
use mathlib.Core.Path.{◌≡◌, refl, sym, ap, ◌∙◌}
use mathlib.Core.Bool.{Bool, true, false}
use mathlib.Core.List.{List, [], ◌∷◌, ◌++◌, map, append_assoc}
use Prim.Native.Nat.{ℕ, ◌+◌, ◌*◌, ◌<◌, ◌≤◌}
use native.Mathlib.Omega.{arith}
use borrow.Author.Tests.{lt-ltb, le-ltb}
use lib.IntN.{ℤ, pos}
use lib.ListN.{length, get_or, take, drop, set, length-map, length-append, get_or-map}
use lib.Seq.{paste, set_at, length-take-le}
use mir.Val.{bool_byte}
use Rattle.sizes.specs.Sizes.{STATES, VARIABLES, QUEUE, STATE_NUMBERS}
use Rattle.queue.specs.declared.Queue.{Queue}
use Rattle.queue.specs.Numbers.{QUEUE_NUMBERS, item_numbers, told_length, numbers_of}
use Rattle.queue.proofs.Numbers.{flat_long}
use Rattle.meaning.specs.declared.State.{State}
use Rattle.invariants.specs.Good.{Sized}
use Rattle.promises.specs.Saved.{MARKS, SLOTS_AT, VARS_AT, LENGTH_AT, mark, small, saved, states_widget, stored, moved_on}
use Rattle.saved.proofs.Pasted.{paste_more, on, paste_next}

-- a truth value as a number
pub mark_byte : (b : Bool) → pos (bool_byte b) ≡ mark b
unfolding mark
mark_byte true = refl
mark_byte false = refl

-- one more mark is written
pub mark_more : (d now : List ℤ) (active : List Bool) (i : ℕ) (x : ℤ) → MARKS ≤ length d → length active ≡ STATES → i < STATES
    → now ≡ paste d 1 (map mark active) i → x ≡ mark (get_or active i false)
    → set now (1 + i) x ≡ paste d 1 (map mark active) (i + 1)
unfolding mark
mark_more d now active i x l k h e f =
    let n = length-map active mark in
    paste_more d (map mark active) now 1 i x (pos 0) e (f ∙ sym (get_or-map mark active i false)) (omega arith) (omega arith)

-- the queue as it is lent, and then its own length
pub length_written : (d now : List ℤ) (q : Queue) (x : ℤ) → length q.items ≡ QUEUE → STATE_NUMBERS ≤ length d
    → now ≡ paste d LENGTH_AT (numbers_of q) QUEUE_NUMBERS → x ≡ small q.len
    → set now LENGTH_AT x ≡ paste d LENGTH_AT (small q.len ∷ item_numbers q.items) QUEUE_NUMBERS
unfolding numbers_of
length_written d now q x k l e f =
    let n = flat_long q.items in
    let at = length-take-le LENGTH_AT d (omega arith) in
    rw (
      e,
      f,
      append_assoc (take LENGTH_AT d) (take QUEUE_NUMBERS (numbers_of q)) (drop (LENGTH_AT + QUEUE_NUMBERS) d),
      append_assoc (take LENGTH_AT d) (take QUEUE_NUMBERS (small q.len ∷ item_numbers q.items)) (drop (LENGTH_AT + QUEUE_NUMBERS) d),
    )
    (set_at (take LENGTH_AT d) (pos (told_length q.len))
    (take (2 * QUEUE) (item_numbers q.items) ++ drop (LENGTH_AT + QUEUE_NUMBERS) d)
    (small q.len) LENGTH_AT at)

-- too few numbers stay
pub none_written : (u : State) (ns : List ℤ) → length ns < STATE_NUMBERS → ns ≡ stored u ns
unfolding stored
none_written u ns h = rw (lt-ltb (length ns) STATE_NUMBERS h)

-- numbers that stated no widget stay, others are stored over
pub stayed : (u : State) (ns : List ℤ) → states_widget ns ≡ false → ns ≡ moved_on u ns
unfolding moved_on
stayed u ns h = rw h

pub stored_over : (u : State) (ns after : List ℤ) → states_widget ns ≡ true → after ≡ stored u ns → after ≡ moved_on u ns
unfolding moved_on
stored_over u ns after h e = rw h e

-- the parts one after the other
module _ (u : State) (z : Sized u) (ns : List ℤ) (l : STATE_NUMBERS ≤ length ns) where
  abbrev first : List ℤ
  first = mark u.started ∷ []

  abbrev marks : List ℤ
  marks = first ++ map mark u.active

  pub first_written : (x : ℤ) → x ≡ mark u.started → set ns 0 x ≡ on first ns
  first_written x e = go ns l
    where
      go : (ms : List ℤ) → STATE_NUMBERS ≤ length ms → set ms 0 x ≡ on first ms
      go [] h = absurd (omega arith)
      go (m ∷ ms) h = rw e

  pub all_written : (n0 n1 n2 n3 n4 : List ℤ) → n0 ≡ on first ns
      → n1 ≡ paste n0 1 (map mark u.active) STATES → n2 ≡ paste n1 SLOTS_AT u.slots STATES
      → n3 ≡ paste n2 VARS_AT u.vars VARIABLES
      → n4 ≡ paste n3 LENGTH_AT (small u.queue.len ∷ item_numbers u.queue.items) QUEUE_NUMBERS
      → n4 ≡ stored u ns
  unfolding stored saved
  all_written n0 n1 n2 n3 n4 e0 e1 e2 e3 e4 =
      let a = length-map u.active mark in
      let q = flat_long u.queue.items in
      let s1 = length-append first (map mark u.active) in
      let s2 = length-append marks u.slots in
      let s3 = length-append (marks ++ u.slots) u.vars in
      let s4 = length-append (marks ++ u.slots ++ u.vars) (small u.queue.len ∷ item_numbers u.queue.items) in
      let f1 = e1 ∙ paste_next first ns (map mark u.active) n0 1 STATES e0 refl (omega (arith, z.active)) in
      let f2 = e2 ∙ paste_next marks ns u.slots n1 SLOTS_AT STATES f1 (omega (arith, z.active)) (omega (arith, z.slots)) in
      let f3 =
      e3 ∙ paste_next (marks ++ u.slots) ns u.vars n2 VARS_AT VARIABLES f2 (omega (arith, z.active, z.slots))
      (omega (arith, z.vars)) in
      let f4 =
      e4 ∙ paste_next (marks ++ u.slots ++ u.vars)
      ns (small u.queue.len ∷ item_numbers u.queue.items) n3 LENGTH_AT QUEUE_NUMBERS f3
      (omega (arith, z.active, z.slots, z.vars)) (omega (arith, z.items)) in
      let all : length (marks ++ u.slots ++ u.vars ++ (small u.queue.len ∷ item_numbers u.queue.items)) ≡ STATE_NUMBERS =
      omega (arith, z.active, z.slots, z.vars, z.items) in
      rw (le-ltb (length ns) STATE_NUMBERS l)
      (f4 ∙ ap (λ k. (marks ++ u.slots ++ u.vars ++ (small u.queue.len ∷ item_numbers u.queue.items)) ++ drop k ns) all)
