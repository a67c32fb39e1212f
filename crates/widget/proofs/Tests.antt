-- What the tests of the code say in the words of the test for answer 6: an event, a free place. Assumes nothing.
use Rattle.std.specs.Prelude.{Option, None, Some}
use mathlib.Core.Path.{◌≡◌, refl, sym, ap}
use Prim.Native.Nat.{ℕ, zero, suc, ◌≤◌, ◌<◌}
use mathlib.Core.Bool.{Bool, true, false, ◌&&◌}
use native.Mathlib.Omega.{arith}
use borrow.Author.Tests.{le-leb, lt-leb}
use lib.Dec.{leb}
use lib.ListN.{length, get_or, drop}
use lib.Seq.{length-take-le, get_or-take}
use Rattle.sizes.specs.Sizes.{QUEUE}
use Rattle.queue.specs.Queue.{no_item, waiting}
use Rattle.queue.specs.declared.Queue.{Queue}
use Rattle.meaning.specs.Lists.{every}
use lib.IntN.{ℤ, pos, negsuc}
use Rattle.numbers.specs.Equal.{eq_z}
use Rattle.numbers.specs.Range.{in_range}
use Rattle.numbers.specs.Place.{place_of}
use Rattle.queue.specs.declared.Item.{Item}
use Rattle.meaning.specs.Foreign.{event_fits, item_fits, is_none, queue_fits}

and_no : (b : Bool) → (b && false) ≡ false
and_no true = refl
and_no false = refl

-- ---- an event, by what it names

pub event_names : (e : ℤ) {p : Option ℕ} (k : ℕ) → p ≡ place_of e → p ≡ Some k → e ≡ pos k
event_names (pos n) k q r = let z : n ≡ k = cc in ap pos z
event_names (negsuc n) k q r = let z : ◌≡◌ {A = ℕ} 0 1 = cc in absurd (omega arith)

pub event_below : (n : ℕ) (e a : ℤ) {p : Option ℕ} → p ≡ place_of e → p ≡ None → false ≡ event_fits n e a
unfolding event_fits
event_below n (pos k) a q r = let z : ◌≡◌ {A = ℕ} 0 1 = cc in absurd (omega arith)
event_below n (negsuc k) a q r = refl

pub event_zero : (n : ℕ) (e a : ℤ) (k : ℕ) → e ≡ pos k → k ≡ 0 → false ≡ event_fits n e a
unfolding event_fits
event_zero n e a k q z = rw (q, z)

pub event_past : (n : ℕ) (e a : ℤ) (k : ℕ) → e ≡ pos k → (k ≡ 0 → ⊥) → n < k → false ≡ event_fits n e a
unfolding event_fits
event_past n e a k q z h = rw (q, lt-leb k n h) (sym (and_no (leb 1 k)))

pub event_in : (n : ℕ) (e a : ℤ) (k : ℕ) → e ≡ pos k → (k ≡ 0 → ⊥) → k ≤ n → in_range a ≡ event_fits n e a
unfolding event_fits
event_in n e a zero q z h = absurd (z refl)
event_in n e a (suc k) q z h = rw (q, le-leb (suc k) n h, le-leb 1 (suc k) (omega arith))

-- ---- a free place

pub free_event : (i : Item) → eq_z i.event (pos 0) ≡ true → eq_z i.arg (pos 0) ≡ is_none i
unfolding is_none
free_event i t = rw t

pub free_not : (i : Item) → eq_z i.event (pos 0) ≡ false → false ≡ is_none i
unfolding is_none
free_not i t = rw t

-- ---- the events that wait

module _ (q : Queue) (long : length q.items ≡ QUEUE) (fits : q.len ≤ QUEUE) (i : ℕ) where
  pub waiting_long : length (waiting q) ≡ q.len
  waiting_long = length-take-le q.len q.items (omega arith)

  pub waiting_at : (n : ℕ) (b : Bool) → i < q.len → b ≡ event_fits n (get_or q.items i no_item).event (get_or q.items i no_item).arg
      → item_fits n (get_or (waiting q) i no_item) ≡ b
  unfolding item_fits
  waiting_at n b h e = rw (get_or-take q.len q.items i no_item h) (sym e)

-- ---- the whole queue

module _ (n : ℕ) (q : Queue) where
  pub queue_over : QUEUE < q.len → false ≡ queue_fits n q
  unfolding queue_fits
  queue_over h = rw (lt-leb q.len QUEUE h)

  pub queue_wrong : q.len ≤ QUEUE → every (item_fits n) (waiting q) ≡ false → false ≡ queue_fits n q
  unfolding queue_fits
  queue_wrong h e = rw (le-leb q.len QUEUE h, e)

  pub queue_right : q.len ≤ QUEUE → every (item_fits n) (waiting q) ≡ true → every is_none (drop q.len q.items) ≡ queue_fits n q
  unfolding queue_fits
  queue_right h e = rw (le-leb q.len QUEUE h, e)
