-- The queue whose places not in use hold 0 with 0: it is known by what waits, and append and remove keep it so.
-- The array's length is kept on every queue. Assumes nothing.
use mathlib.Core.Path.{◌≡◌, refl, sym, ◌∙◌}
use mathlib.Core.Bool.{Bool, true, false}
use mathlib.Core.List.{List, [], ◌∷◌, ◌++◌, append_assoc}
use Prim.Native.Nat.{ℕ, suc, ◌+◌, ◌-◌, ◌<◌, ◌≤◌}
use native.Mathlib.Omega.{arith}
use borrow.Author.Tests.{ltb-true, ltb-false}
use lib.Dec.{ltb, eqb}
use lib.IntN.{ℤ}
use lib.ListN.{length, drop, set, replicate, length-drop, length-append, length-set, length-replicate}
use lib.ListN.{replicate-append-replicate, take-append-drop}
use lib.Seq.{set-append_seam, append_snoc, take-append_seam, length-take-le}
use Rattle.sizes.specs.Sizes.{QUEUE}
use Rattle.queue.specs.declared.Item.{Item}
use Rattle.queue.specs.declared.Queue.{Queue}
use Rattle.queue.specs.Queue.{appended, removed, shifted, no_item, item, waiting, empty_queue, queue_of}
use Rattle.queue.proofs.Waiting.{appended_room, appended_full, removed_front, removed_none}

pub waiting_of : (w : List Item) → waiting (queue_of w) ≡ w
unfolding queue_of
waiting_of w = take-append_seam w (replicate (QUEUE - length w) no_item)

pub empty_of : empty_queue ≡ queue_of []
unfolding empty_queue queue_of
empty_of = refl

pub queue_long : (w : List Item) → length w ≤ QUEUE → length (queue_of w).items ≡ QUEUE
unfolding queue_of
queue_long w h = simp (length-append, length-replicate) (omega arith)

-- an append puts last; the place that it takes was free
stored : (w : List Item) (x z : Item) (n m : ℕ) → n ≡ suc m → set (w ++ replicate n z) (length w) x ≡ (w ++ (x ∷ [])) ++ replicate m z
stored w x z n m e = rw e (set-append_seam w z (replicate m z) x ∙ sym (append_snoc w x (replicate m z)))

pub appended_of : (w : List Item) (e a : ℤ) → length w < QUEUE
    → appended (queue_of w) e a ≡ record { done = true; queue = queue_of (w ++ (item e a ∷ [])) }
unfolding queue_of
appended_of w e a h =
    let l : length (w ++ (item e a ∷ [])) ≡ length w + 1 = length-append w (item e a ∷ []) in
    rw (
      appended_room (queue_of w) e a h,
      l,
      stored w (item e a) no_item (QUEUE - length w) (QUEUE - (length w + 1)) (omega arith),
    )

pub appended_of_full : (w : List Item) (e a : ℤ)
    → QUEUE ≤ length w → appended (queue_of w) e a ≡ record { done = false; queue = queue_of w }
unfolding queue_of
appended_of_full w e a h = appended_full (queue_of w) e a h

-- a removal takes the first, and frees the last place
freed : (w : List Item) (z : Item) (n m : ℕ) → m ≡ n + 1 → (w ++ replicate n z) ++ (z ∷ []) ≡ w ++ replicate m z
freed w z n m e = rw (e, append_assoc, ← replicate-append-replicate n 1 z)

pub removed_of : (x : Item) (w : List Item) → length w < QUEUE
    → removed (queue_of (x ∷ w)) ≡ record { done = true; front = x; queue = queue_of w }
unfolding queue_of
removed_of x w h =
    let n : suc (length w) - 1 ≡ length w = omega arith in
    rw (
      removed_front (queue_of (x ∷ w)) (omega arith) (omega arith),
      freed w no_item (QUEUE - suc (length w)) (QUEUE - length w) (omega arith),
      n,
    )

pub removed_of_none : removed (queue_of []) ≡ record { done = false; front = no_item; queue = queue_of [] }
unfolding queue_of
removed_of_none = removed_none (queue_of []) refl

-- a queue whose places not in use are free is the one of what waits
pub tidy_is : (q : Queue) → q.len ≤ QUEUE → length q.items ≡ QUEUE → drop q.len q.items ≡ replicate (QUEUE - q.len) no_item
    → q ≡ queue_of (waiting q)
unfolding queue_of
tidy_is q h l t =
    let n : length (waiting q) ≡ q.len = length-take-le q.len q.items (omega arith) in
    rw (n, ← t, take-append-drop)

-- on every queue the number of places stays
module _ (q : Queue) where
  pub appended_long : (e a : ℤ) → length (appended q e a).queue.items ≡ length q.items
  appended_long e a = go (ltb q.len QUEUE) refl
    where
      go : (t : Bool) → ltb q.len QUEUE ≡ t → length (appended q e a).queue.items ≡ length q.items
      go true t = rw (appended_room q e a (ltb-true q.len QUEUE t)) (length-set q.items q.len (item e a))
      go false t = rw (appended_full q e a (ltb-false q.len QUEUE t))

  shifted_long : 0 < length q.items → length (shifted q.items) ≡ length q.items
  shifted_long h = simp (length-append, length-drop) (omega arith)

  pub removed_long : 0 < length q.items → length (removed q).queue.items ≡ length q.items
  unfolding removed
  removed_long h = go (eqb q.len 0) (ltb QUEUE q.len) refl refl
    where
      go : (s t : Bool) → eqb q.len 0 ≡ s → ltb QUEUE q.len ≡ t → length (removed q).queue.items ≡ length q.items
      go true t e f = rw e
      go false true e f = rw (e, f)
      go false false e f = rw (e, f) (shifted_long h)
