-- Document 01, "One reaction", the queue: what append and remove give on every queue, and which events wait in it.
use Rattle.std.specs.Prelude.{Option, None, Some, Result, Ok, Err, Bool, true, false, cond, List, [], ◌∷◌, ◌++◌, ◌+◌, ◌-◌, ltb, eqb, ℤ, pos, length, get_or, set, take, drop, replicate}
use Rattle.sizes.specs.Sizes.{QUEUE}
use Rattle.queue.specs.declared.Item.{Item}
use Rattle.queue.specs.declared.Queue.{Queue}

-- 01: places not in use hold 0 with 0
abbrev pub no_item : Item
no_item = record { event = pos 0; arg = pos 0 }

-- an event with its argument
abbrev pub item : ℤ → ℤ → Item
item e a = record { event = e; arg = a }

-- 01, start: an empty queue
unfoldable pub empty_queue : Queue
empty_queue = record { len = 0; items = replicate QUEUE no_item }

-- the events that wait, the front one first
abbrev pub waiting : Queue → List Item
waiting q = take q.len q.items

-- the queue in which these wait, with every place not in use free
unfoldable pub queue_of : List Item → Queue
queue_of w = record { len = length w; items = w ++ replicate (QUEUE - length w) no_item }

-- what an append gives: whether there was room, and the queue after it
pub record Queued : Type 0 where
  pub done : Bool
  pub queue : Queue

-- the same of the code, which hands the queue back in both cases
abbrev pub appended_by : Result Queue Queue → Queued
appended_by (Ok q) = record { done = true; queue = q }
appended_by (Err q) = record { done = false; queue = q }

-- 01: post appends an event with an argument; the queue stays as it was where it is full
unfoldable pub appended : Queue → ℤ → ℤ → Queued
appended q e a =
    cond (ltb q.len QUEUE)
    (record { done = true; queue = record { len = q.len + 1; items = set q.items q.len (item e a) } })
    (record { done = false; queue = q })

-- the front is out, each place holds what the next one held, and the last is free
abbrev pub shifted : List Item → List Item
shifted l = drop 1 l ++ (no_item ∷ [])

-- what a removal gives: whether there was a front, the front, and the queue after it
pub record Removed : Type 0 where
  pub done : Bool
  pub front : Item
  pub queue : Queue

-- the same of the code, which gives the front where there was one, and the queue
abbrev pub removed_by : Option Item → Queue → Removed
removed_by (Some x) q = record { done = true; front = x; queue = q }
removed_by None q = record { done = false; front = no_item; queue = q }

-- 01: discard removes the front one; a queue that is empty, or longer than its places, stays as it was
unfoldable pub removed : Queue → Removed
removed q =
    cond (eqb q.len 0)
    (record { done = false; front = no_item; queue = q })
    (cond (ltb QUEUE q.len)
    (record { done = false; front = no_item; queue = q })
    (record { done = true; front = get_or q.items 0 no_item; queue = record { len = q.len - 1; items = shifted q.items } }))
