-- The queue inside a reaction, lent as numbers: its length, then event and argument of each place. Every list of numbers says some queue: a
-- first number that is no length says one longer than its places. Assumes nothing.
use Rattle.std.specs.Prelude.{cond, List, [], ◌∷◌, ℕ, ◌+◌, ◌*◌, ltb, ℤ, pos, get_or, drop}
use Rattle.sizes.specs.Sizes.{QUEUE}
use Rattle.numbers.specs.Reference.{ref}
use Rattle.queue.specs.Queue.{item}
use Rattle.queue.specs.declared.Item.{Item}
use Rattle.queue.specs.declared.Queue.{Queue}

-- one number for the length, two for each place
abbrev pub QUEUE_NUMBERS : ℕ
QUEUE_NUMBERS = 1 + 2 * QUEUE

-- the places that such numbers say
unfoldable pub places : List ℤ → List Item
places [] = []
places (e ∷ []) = []
places (e ∷ a ∷ ns) = item e a ∷ places ns

-- the queue that such numbers say
unfoldable pub queue_by : List ℤ → Queue
queue_by ns = record { len = ref (get_or ns 0 (pos 0)); items = places (drop 1 ns) }

-- places as numbers
unfoldable pub item_numbers : List Item → List ℤ
item_numbers [] = []
item_numbers (x ∷ xs) = x.event ∷ x.arg ∷ item_numbers xs

-- a length as a number: all that are over the places are alike
unfoldable pub told_length : ℕ → ℕ
told_length n = cond (ltb QUEUE n) (QUEUE + 1) n

-- the numbers of a queue
unfoldable pub numbers_of : Queue → List ℤ
numbers_of q = pos (told_length q.len) ∷ item_numbers q.items
