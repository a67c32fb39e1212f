-- The queue as the list of what waits: append puts last, remove takes the first. Assumes nothing.
use mathlib.Core.Path.{◌≡◌, refl, ◌∙◌}
use mathlib.Core.Bool.{true, false}
use mathlib.Core.List.{List, [], ◌∷◌, ◌++◌}
use Prim.Native.Nat.{ℕ, zero, suc, ◌+◌, ◌-◌, ◌<◌, ◌≤◌}
use native.Mathlib.Numerals.{add-one}
use native.Mathlib.Omega.{arith}
use borrow.Author.Tests.{lt-ltb, le-ltb, ne_eqb, eq-eqb}
use lib.IntN.{ℤ}
use lib.ListN.{length, take, drop, get_or, set, length-drop}
use lib.Seq.{take-suc-set, take-append-le, take-nil}
use Rattle.queue.specs.declared.Item.{Item}
use Rattle.queue.specs.declared.Queue.{Queue}
use Rattle.queue.specs.Queue.{appended, removed, shifted, no_item, item, waiting, empty_queue}
use Rattle.sizes.specs.Sizes.{QUEUE}

-- nothing waits in an empty queue
pub empty_waits : waiting empty_queue ≡ []
unfolding empty_queue
empty_waits = refl

-- an append to a queue with room, and to one without
module _ (q : Queue) (e a : ℤ) where
  pub appended_room : q.len < QUEUE
      → appended q e a ≡ record { done = true; queue = record { len = q.len + 1; items = set q.items q.len (item e a) } }
  unfolding appended
  appended_room h = rw (lt-ltb q.len QUEUE h)

  pub appended_full : QUEUE ≤ q.len → appended q e a ≡ record { done = false; queue = q }
  unfolding appended
  appended_full h = rw (le-ltb q.len QUEUE h)

  pub appended_waits : q.len < QUEUE → length q.items ≡ QUEUE → waiting (appended q e a).queue ≡ waiting q ++ (item e a ∷ [])
  unfolding appended
  appended_waits h l = rw (lt-ltb q.len QUEUE h, add-one) (take-suc-set q.items q.len (item e a) (omega arith))

take_drop : (n : ℕ) (l : List Item) → take n (drop 1 l) ≡ drop 1 (take (suc n) l)
take_drop n [] = take-nil n
take_drop n (x ∷ l) = refl

front_first : (n : ℕ) (l : List Item) → 0 < n → 0 < length l → take n l ≡ get_or l 0 no_item ∷ drop 1 (take n l)
front_first zero l h k = absurd (omega arith)
front_first (suc n) [] h k = absurd (omega arith)
front_first (suc n) (x ∷ l) h k = refl

-- a removal from a queue in which something waits, and from one in which nothing does
module _ (q : Queue) where
  pub removed_front : 0 < q.len → q.len ≤ QUEUE
      → removed q ≡ record {
        done = true;
        front = get_or q.items 0 no_item;
        queue = record { len = q.len - 1; items = shifted q.items };
      }
  unfolding removed
  removed_front h k = rw (ne_eqb q.len 0 (λ e. omega arith), le-ltb QUEUE q.len k)

  pub removed_none : q.len ≡ 0 → removed q ≡ record { done = false; front = no_item; queue = q }
  unfolding removed
  removed_none h = rw (eq-eqb q.len 0 h)

  pub removed_waits : 0 < q.len → q.len ≤ QUEUE → length q.items ≡ QUEUE → waiting (removed q).queue ≡ drop 1 (waiting q)
  unfolding removed
  removed_waits h k l =
      let s : suc (q.len - 1) ≡ q.len = omega arith in
      rw (ne_eqb q.len 0 (λ e. omega arith), le-ltb QUEUE q.len k)
      (take-append-le (q.len - 1) (drop 1 q.items) (no_item ∷ []) (rw length-drop (omega arith))
      ∙ take_drop (q.len - 1) q.items ∙ rw s)

  -- what waited is the front that was handed out, and then what waits now
  pub removed_splits : 0 < q.len → q.len ≤ QUEUE → length q.items ≡ QUEUE
      → waiting q ≡ (removed q).front ∷ waiting (removed q).queue
  removed_splits h k l =
      rw (removed_waits h k l, removed_front h k) (front_first q.len q.items h (omega arith))
