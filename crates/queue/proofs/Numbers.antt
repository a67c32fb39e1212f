-- The queue as lent numbers: what stands at each place, that lending and taking back are inverse, and what an append and a removal do to
-- the numbers. In the order: places, the two ways round, the loops of both ways, append, removal. Assumes nothing.
use mathlib.Core.Path.{◌≡◌, refl, sym, ap, ◌∙◌}
use mathlib.Core.Bool.{Bool, true, false}
use mathlib.Core.List.{List, [], ◌∷◌, ◌++◌, append-nil}
use Prim.Native.Nat.{ℕ, zero, suc, ◌+◌, ◌-◌, ◌*◌, ◌<◌, ◌≤◌}
use native.Mathlib.Omega.{arith}
use borrow.Author.Tests.{lt-ltb, le-ltb, ne_eqb}
use lib.IntN.{ℤ, pos}
use lib.ListN.{length, take, drop, get_or, set, replicate, length-drop, length-set, length-append, length-replicate, drop_of_length-le}
use lib.Seq.{take_all, drop-cons, get_or-drop, get_or-append-add, length-take-le, set_at, append_snoc}
use Rattle.sizes.specs.Sizes.{QUEUE}
use Rattle.numbers.specs.Reference.{ref}
use Rattle.queue.specs.declared.Item.{Item}
use Rattle.queue.specs.declared.Queue.{Queue}
use Rattle.queue.specs.Queue.{appended, removed, shifted, no_item, item}
use Rattle.queue.proofs.Copy.{copied, copied_suc}
use Rattle.queue.proofs.Waiting.{removed_front, removed_none}
use Rattle.queue.specs.Numbers.{QUEUE_NUMBERS, places, queue_by, item_numbers, told_length, numbers_of}

-- ---- places

double : (n : ℕ) → 2 * suc n ≡ suc (suc (2 * n))
double n = omega arith

pub flat_long : (xs : List Item) → length (item_numbers xs) ≡ 2 * length xs
unfolding item_numbers
flat_long [] = refl
flat_long (x ∷ xs) = rw double (ap (λ n. suc (suc n)) (flat_long xs))

pub places_long : (ns : List ℤ) (n : ℕ) → length ns ≡ 2 * n → length (places ns) ≡ n
unfolding places
places_long [] n e = omega arith
places_long (x ∷ []) n e = absurd (omega arith)
places_long (x ∷ y ∷ ns) zero e = absurd (omega arith)
places_long (x ∷ y ∷ ns) (suc n) e = ap suc (places_long ns n (omega arith))

pub flat_event : (xs : List Item) (i : ℕ) (z : ℤ) → i < length xs → get_or (item_numbers xs) (2 * i) z ≡ (get_or xs i no_item).event
unfolding item_numbers
flat_event [] i z h = absurd (omega arith)
flat_event (x ∷ xs) zero z h = refl
flat_event (x ∷ xs) (suc i) z h = rw (double i) (flat_event xs i z (omega arith))

pub flat_arg : (xs : List Item) (i : ℕ) (z : ℤ) → i < length xs → get_or (item_numbers xs) (suc (2 * i)) z ≡ (get_or xs i no_item).arg
unfolding item_numbers
flat_arg [] i z h = absurd (omega arith)
flat_arg (x ∷ xs) zero z h = refl
flat_arg (x ∷ xs) (suc i) z h = rw (double i) (flat_arg xs i z (omega arith))

pub places_at : (ns : List ℤ) (i : ℕ) (z : ℤ) → suc (2 * i) < length ns
    → get_or (places ns) i no_item ≡ item (get_or ns (2 * i) z) (get_or ns (suc (2 * i)) z)
unfolding places
places_at [] i z h = absurd (omega arith)
places_at (x ∷ []) i z h = absurd (omega arith)
places_at (x ∷ y ∷ ns) zero z h = refl
places_at (x ∷ y ∷ ns) (suc i) z h = rw (double i) (places_at ns i z (omega arith))

places_set : (ns : List ℤ) (i : ℕ) (e a : ℤ) → suc (2 * i) < length ns
    → places (set (set ns (2 * i) e) (suc (2 * i)) a) ≡ set (places ns) i (item e a)
unfolding places
places_set [] i e a h = absurd (omega arith)
places_set (x ∷ []) i e a h = absurd (omega arith)
places_set (x ∷ y ∷ ns) zero e a h = refl
places_set (x ∷ y ∷ ns) (suc i) e a h = rw (double i) (ap (λ xs. item x y ∷ xs) (places_set ns i e a (omega arith)))

places_append : (ms ns : List ℤ) (n : ℕ) → length ms ≡ 2 * n → places (ms ++ ns) ≡ places ms ++ places ns
unfolding places
places_append [] ns n e = refl
places_append (x ∷ []) ns n e = absurd (omega arith)
places_append (x ∷ y ∷ ms) ns zero e = absurd (omega arith)
places_append (x ∷ y ∷ ms) ns (suc n) e = ap (λ xs. item x y ∷ xs) (places_append ms ns n (omega arith))

-- ---- the two ways round

places_flat : (xs : List Item) → places (item_numbers xs) ≡ xs
unfolding places item_numbers
places_flat [] = refl
places_flat (x ∷ xs) = ap (λ ys. x ∷ ys) (places_flat xs)

flat_places : (ns : List ℤ) (n : ℕ) → length ns ≡ 2 * n → item_numbers (places ns) ≡ ns
unfolding places item_numbers
flat_places [] n e = refl
flat_places (x ∷ []) n e = absurd (omega arith)
flat_places (x ∷ y ∷ ns) zero e = absurd (omega arith)
flat_places (x ∷ y ∷ ns) (suc n) e = ap (λ xs. x ∷ y ∷ xs) (flat_places ns n (omega arith))

pub told_is : (n : ℕ) → n ≤ QUEUE → told_length n ≡ n
unfolding told_length
told_is n h = rw (le-ltb QUEUE n h)

pub told_over : (n : ℕ) → QUEUE < n → told_length n ≡ QUEUE + 1
unfolding told_length
told_over n h = rw (lt-ltb QUEUE n h)

-- a queue that is lent is held as it was
pub held_lent : (q : Queue) → q.len ≤ QUEUE → queue_by (numbers_of q) ≡ q
unfolding queue_by numbers_of
held_lent q h = rw (told_is q.len h, places_flat q.items)

-- numbers that say a queue are those of the queue that they say
pub lent_held : (n : ℕ) (ns : List ℤ) → n ≤ QUEUE → length ns ≡ 2 * QUEUE → numbers_of (queue_by (pos n ∷ ns)) ≡ pos n ∷ ns
unfolding queue_by numbers_of
lent_held n ns h l = rw (told_is n h, flat_places ns QUEUE l)

-- ---- the loops of both ways

abbrev pub zeros : List ℤ
zeros = replicate QUEUE_NUMBERS (pos 0)

abbrev pub free : List Item
free = replicate QUEUE no_item

pub numbers_long : (q : Queue) → length q.items ≡ QUEUE → length (numbers_of q) ≡ QUEUE_NUMBERS
unfolding numbers_of
numbers_long q l = rw (flat_long q.items, l)

-- the length stands first
pub lend_begin : (q : Queue) (x : ℤ) → x ≡ pos (told_length q.len) → set zeros 0 x ≡ copied zeros (numbers_of q) 1
unfolding numbers_of
lend_begin q x e = rw e

-- one more place is written
pub lend_more : (q : Queue) (ns : List ℤ) (i : ℕ) (e a : ℤ) → length q.items ≡ QUEUE → i < QUEUE
    → ns ≡ copied zeros (numbers_of q) (2 * i + 1)
    → e ≡ (get_or q.items i no_item).event → a ≡ (get_or q.items i no_item).arg
    → set (set ns (2 * i + 1) e) (2 * i + 1 + 1) a ≡ copied zeros (numbers_of q) (2 * (i + 1) + 1)
unfolding numbers_of
lend_more q ns i e a l h p f g =
    let m : 2 * (i + 1) + 1 ≡ 2 * i + 1 + 1 + 1 = omega arith in
    let r = length-replicate QUEUE_NUMBERS (pos 0) in
    let n = numbers_long q l in
    rw (
      p,
      f ∙ sym event,
      g ∙ sym arg,
      copied_suc zeros (numbers_of q) (2 * i + 1) (pos 0) (omega arith) (omega arith),
      copied_suc zeros (numbers_of q) (2 * i + 1 + 1) (pos 0) (omega arith) (omega arith),
      m,
    )
  where
    event : get_or (numbers_of q) (2 * i + 1) (pos 0) ≡ (get_or q.items i no_item).event
    event = let s : 2 * i + 1 ≡ suc (2 * i) = omega arith in rw s (flat_event q.items i (pos 0) (omega arith))

    arg : get_or (numbers_of q) (2 * i + 1 + 1) (pos 0) ≡ (get_or q.items i no_item).arg
    arg = let s : 2 * i + 1 + 1 ≡ suc (suc (2 * i)) = omega arith in rw s (flat_arg q.items i (pos 0) (omega arith))

pub lend_all : (q : Queue) (ns : List ℤ) (i : ℕ) → length q.items ≡ QUEUE → i ≡ QUEUE → ns ≡ copied zeros (numbers_of q) (2 * i + 1)
    → ns ≡ numbers_of q
lend_all q ns i l h p =
    let m : 2 * i + 1 ≡ QUEUE_NUMBERS = omega arith in
    let n = numbers_long q l in
    p ∙ rw (m, take_all QUEUE_NUMBERS (numbers_of q) (omega arith), append-nil)

module _ (ns : List ℤ) (l : length ns ≡ QUEUE_NUMBERS) where
  rest_long : length (places (drop 1 ns)) ≡ QUEUE
  rest_long = places_long (drop 1 ns) QUEUE (rw length-drop (omega arith))

  -- one more place is read
  pub held_more : (ps : List Item) (i : ℕ) (e a : ℤ) → i < QUEUE → ps ≡ copied free (places (drop 1 ns)) i
      → e ≡ get_or ns (2 * i + 1) (pos 0) → a ≡ get_or ns (2 * i + 1 + 1) (pos 0)
      → set ps i (item e a) ≡ copied free (places (drop 1 ns)) (i + 1)
  held_more ps i e a h p f g =
      let n = rest_long in
      let r = length-replicate QUEUE no_item in
      let s : 1 + 2 * i ≡ 2 * i + 1 = omega arith in
      let t : 1 + suc (2 * i) ≡ 2 * i + 1 + 1 = omega arith in
      let at : get_or (places (drop 1 ns)) i no_item ≡ item e a =
      places_at (drop 1 ns) i (pos 0) (rw length-drop (omega arith))
      ∙ ap (λ x. item x (get_or (drop 1 ns) (suc (2 * i)) (pos 0))) (get_or-drop 1 ns (2 * i) (pos 0) ∙ ap (λ j. get_or ns j (pos 0)) s ∙ sym f)
      ∙ ap (item e) (get_or-drop 1 ns (suc (2 * i)) (pos 0) ∙ ap (λ j. get_or ns j (pos 0)) t ∙ sym g) in
      rw (p, ← at) (copied_suc free (places (drop 1 ns)) i no_item (omega arith) (omega arith))

  pub held_all : (ps : List Item) (i n : ℕ) → i ≡ QUEUE → ps ≡ copied free (places (drop 1 ns)) i → n ≡ ref (get_or ns 0 (pos 0))
      → ◌≡◌ {A = Queue} (record { len = n; items = ps }) (queue_by ns)
  unfolding queue_by
  held_all ps i n h p e =
      let k = rest_long in
      let all : ps ≡ places (drop 1 ns) = p ∙ rw (h, take_all QUEUE (places (drop 1 ns)) (omega arith), append-nil) in
      rw (e, all)

-- ---- append

-- what `append` promises of the numbers before and after, and of its answer
abbrev pub Appends : List ℤ → ℤ → ℤ → Bool → List ℤ → Type 0
Appends ns e a done ms =
    (done ≡ (appended (queue_by ns) e a).done) × (length ms ≡ length ns)
    × (length ns ≡ QUEUE_NUMBERS → queue_by ms ≡ (appended (queue_by ns) e a).queue)

module _ (ns : List ℤ) (n : ℕ) (e a : ℤ) (l : n ≡ ref (get_or ns 0 (pos 0))) where
  pub append_full : QUEUE ≤ n → Appends ns e a false ns
  unfolding appended queue_by
  append_full h = let f = le-ltb (ref (get_or ns 0 (pos 0))) QUEUE (omega arith) in (rw f, refl, λ k. rw f)

  module _ (h : n < QUEUE) where
    has_room : true ≡ (appended (queue_by ns) e a).done
    unfolding appended queue_by
    has_room = rw (← l, lt-ltb n QUEUE h)

append_room : (x : ℤ) (ns : List ℤ) (n : ℕ) (e a : ℤ) → n ≡ ref x → length ns ≡ 2 * QUEUE → n < QUEUE
    → queue_by (pos (n + 1) ∷ set (set ns (2 * n) e) (suc (2 * n)) a) ≡ (appended (queue_by (x ∷ ns)) e a).queue
unfolding appended queue_by
append_room x ns n e a l k h = rw (← l, lt-ltb n QUEUE h, places_set ns n e a (omega arith))

append_stored : (ns : List ℤ) (n at : ℕ) (e a : ℤ) → n ≡ ref (get_or ns 0 (pos 0)) → n < QUEUE → at ≡ suc (2 * n) → length ns ≡ QUEUE_NUMBERS
    → queue_by (set (set (set ns at e) (suc at) a) 0 (pos (n + 1))) ≡ (appended (queue_by ns) e a).queue
append_stored [] n at e a l h p k = absurd (omega arith)
append_stored (x ∷ ns) n at e a l h p k = rw p (append_room x ns n e a l (omega arith) h)

pub append_on : (ns : List ℤ) (n at next : ℕ) (e a : ℤ) → n ≡ ref (get_or ns 0 (pos 0)) → n < QUEUE → at ≡ suc (2 * n) → next ≡ suc at
    → Appends ns e a true (set (set (set ns at e) next a) 0 (pos (n + 1)))
append_on ns n at next e a l h p q = (has_room ns n e a l h, simp length-set, rw q (append_stored ns n at e a l h p))

-- ---- removal

-- the numbers from the second on, of which each so far has taken what stood two further
abbrev pub slid : List ℤ → ℕ → List ℤ
slid ns i = take 1 ns ++ copied (drop 1 ns) (drop 3 ns) (i - 1)

pub slid_none : (ns : List ℤ) → length ns ≡ QUEUE_NUMBERS → ns ≡ slid ns 1
slid_none [] l = absurd (omega arith)
slid_none (x ∷ t) l = refl

slid_read : (t : List ℤ) (j : ℕ) → j + 2 ≤ length t → get_or (copied t (drop 2 t) j) (j + 2) (pos 0) ≡ get_or (drop 2 t) j (pos 0)
slid_read t j h =
    let l : length (take j (drop 2 t)) ≡ j = length-take-le j (drop 2 t) (rw length-drop (omega arith)) in
    let m : 2 + j ≡ j + 2 = omega arith in
    ap (λ k. get_or (copied t (drop 2 t) j) (k + 2) (pos 0)) (sym l)
    ∙ get_or-append-add (take j (drop 2 t)) (drop j t) 2 (pos 0)
    ∙ get_or-drop j t 2 (pos 0)
    ∙ sym (get_or-drop 2 t j (pos 0) ∙ rw m)

pub slid_more : (ns now : List ℤ) (i : ℕ) → length ns ≡ QUEUE_NUMBERS → 1 ≤ i → i < QUEUE_NUMBERS - 2 → now ≡ slid ns i
    → set now i (get_or now (i + 2) (pos 0)) ≡ slid ns (i + 1)
slid_more [] now i l h k e = absurd (omega arith)
slid_more (x ∷ t) now zero l h k e = absurd (omega arith)
slid_more (x ∷ t) now (suc j) l h k e =
    let a : suc j - 1 ≡ j = omega arith in
    let b : j + 1 ≡ suc j + 1 - 1 = omega arith in
    let two : suc j + 2 ≡ suc (j + 2) = omega arith in
    let was : now ≡ x ∷ copied t (drop 2 t) j = e ∙ ap (λ m. x ∷ copied t (drop 2 t) m) a in
    ap (λ l. set l (suc j) (get_or l (suc j + 2) (pos 0))) was
    ∙ ap (λ m. set (x ∷ copied t (drop 2 t) j) (suc j) (get_or (x ∷ copied t (drop 2 t) j) m (pos 0))) two
    ∙ ap (λ y. x ∷ set (copied t (drop 2 t) j) j y) (slid_read t j (omega arith))
    ∙ ap (λ m. x ∷ m) (copied_suc t (drop 2 t) j (pos 0) (omega arith) (rw length-drop (omega arith)))
    ∙ ap (λ m. x ∷ copied t (drop 2 t) m) b

-- the last place is freed
slid_out : (t : List ℤ) (m : ℕ) → m + 2 ≡ length t
    → set (set (copied t (drop 2 t) m) m (pos 0)) (suc m) (pos 0) ≡ drop 2 t ++ (pos 0 ∷ pos 0 ∷ [])
slid_out t m h =
    let p : length (drop 2 t) ≡ m = rw length-drop (omega arith) in
    let two : drop m t ≡ get_or t m (pos 0) ∷ get_or t (suc m) (pos 0) ∷ [] =
    drop-cons t m (pos 0) (omega arith)
    ∙ ap (λ l. get_or t m (pos 0) ∷ l) (drop-cons t (suc m) (pos 0) (omega arith)
    ∙ ap (λ l. get_or t (suc m) (pos 0) ∷ l) (drop_of_length-le t {i = suc (suc m)} (omega arith))) in
    let q : length (drop 2 t ++ (pos 0 ∷ [])) ≡ suc m = length-append (drop 2 t) (pos 0 ∷ []) ∙ omega arith in
    rw (take_all m (drop 2 t) (omega arith), two, set_at (drop 2 t) (get_or t m (pos 0)) (get_or t (suc m) (pos 0) ∷ []) (pos 0) m p)
    (ap (λ l. set l (suc m) (pos 0)) (sym (append_snoc (drop 2 t) (pos 0) (get_or t (suc m) (pos 0) ∷ [])))
    ∙ set_at (drop 2 t ++ (pos 0 ∷ [])) (get_or t (suc m) (pos 0)) [] (pos 0) (suc m) q
    ∙ append_snoc (drop 2 t) (pos 0) (pos 0 ∷ []))

-- what a removal from numbers that say a queue with something in it gives
places_shifted : (t : List ℤ) → length t ≡ 2 * QUEUE → places (drop 2 t ++ (pos 0 ∷ pos 0 ∷ [])) ≡ shifted (places t)
unfolding places
places_shifted [] l = absurd (omega arith)
places_shifted (x ∷ []) l = absurd (omega arith)
places_shifted (x ∷ y ∷ t) l = places_append t (pos 0 ∷ pos 0 ∷ []) (QUEUE - 1) (omega arith)

module _ (ns : List ℤ) (n : ℕ) (e : n ≡ ref (get_or ns 0 (pos 0))) where
  -- nothing waits, or the length is none
  pub remove_none : n ≡ 0 → removed (queue_by ns) ≡ record { done = false; front = no_item; queue = queue_by ns }
  unfolding queue_by
  remove_none h = removed_none (queue_by ns) (sym e ∙ h)

  pub remove_over : QUEUE < n → removed (queue_by ns) ≡ record { done = false; front = no_item; queue = queue_by ns }
  unfolding removed queue_by
  remove_over h = rw (← e, ne_eqb n 0 (λ z. omega arith), lt-ltb QUEUE n h)

pub remove_on : (ns now : List ℤ) (n i : ℕ) → n ≡ ref (get_or ns 0 (pos 0)) → length ns ≡ QUEUE_NUMBERS → (n ≡ 0 → ⊥) → n ≤ QUEUE
    → i ≡ QUEUE_NUMBERS - 2 → now ≡ slid ns i
    → removed (queue_by ns) ≡ record {
      done = true;
      front = item (get_or ns 1 (pos 0)) (get_or ns 2 (pos 0));
      queue = queue_by (set (set (set now (QUEUE_NUMBERS - 2) (pos 0)) (QUEUE_NUMBERS - 1) (pos 0)) 0 (pos (n - 1)));
    }
unfolding queue_by
remove_on [] now n i e l z h j p = absurd (omega arith)
remove_on (x ∷ t) now n i e l z h j p =
    rw (
      removed_front (queue_by (x ∷ t)) (omega arith) (omega arith),
      p,
      j,
      slid_out t (2 * QUEUE - 2) (omega arith),
      places_shifted t (omega arith),
      places_at t 0 (pos 0) (omega arith),
      e,
    )
