-- An event's way through the queue, over plain variables: no room, nothing waits before it, something waits before it. Assumes nothing.
use mathlib.Core.Path.{◌≡◌, refl, sym, ap, ◌∙◌, subst}
use Prim.Native.Nat.{ℕ, ◌+◌, ◌<◌, ◌≤◌}
use native.Mathlib.Omega.{arith}
use mathlib.Core.Bool.{true, false≢true}
use mathlib.Core.List.{List, [], ◌∷◌}
use lib.ListN.{length, drop, replicate}
use lib.IntN.{ℤ, pos}
use Rattle.sizes.specs.Sizes.{QUEUE}
use Rattle.numbers.specs.Equal.{eq_z}
use Rattle.numbers.proofs.Laws.{eq_z_true}
use Rattle.std.specs.Prelude.{Option, None, Some, Ok, Err}
use mathlib.Core.Logic.{⊎_elim}
use Rattle.queue.specs.Queue.{appended, appended_by, item, no_item, removed, removed_by}
use Rattle.queue.specs.declared.Item.{Item}
use Rattle.queue.specs.declared.Queue.{Queue}
use Rattle.queue.proofs.Waiting.{appended_full, appended_room, removed_front}
use Rattle.laws.proofs.Lists.{and_left, and_right, le_or_lt}
use Rattle.meaning.specs.Foreign.{is_none}
use Rattle.meaning.specs.Lists.{every}
use Rattle.replaying.specs.Turns.{Free, Passes}

-- ---- free places

free_is : (x : Item) → is_none x ≡ true → x ≡ no_item
unfolding is_none
free_is x h =
    let e : x.event ≡ pos 0 = eq_z_true x.event (pos 0) (and_left (eq_z x.event (pos 0)) _ h) in
    let a : x.arg ≡ pos 0 = eq_z_true x.arg (pos 0) (and_right (eq_z x.event (pos 0)) _ h) in
    ap (λ y. item y x.arg) e ∙ ap (item (pos 0)) a

all_free : (xs : List Item) → every is_none xs ≡ true → xs ≡ replicate (length xs) no_item
unfolding every
all_free [] h = refl
all_free (x ∷ xs) h =
    ap (λ y. y ∷ xs) (free_is x (and_left (is_none x) (every is_none xs) h))
    ∙ ap (λ ys. no_item ∷ ys) (all_free xs (and_right (is_none x) (every is_none xs) h))

-- ---- an event that is appended can be taken

module _ (q : Queue) (e a : ℤ) (h : q.len < QUEUE) where
  pub taken_from : removed (appended q e a).queue ≡ removed (record { len = q.len + 1; items = (appended q e a).queue.items })
  taken_from = ap (λ n. removed (record { len = n; items = (appended q e a).queue.items }))
      (ap (λ x. x.queue.len) (appended_room q e a h))

  pub is_taken : (removed (appended q e a).queue).done ≡ true
  is_taken = ap (λ x. x.done) (taken_from
      ∙ removed_front (record { len = q.len + 1; items = (appended q e a).queue.items }) (omega arith) (omega arith))

-- room in a queue says its length
pub room_len : (q : Queue) (e a : ℤ) → (appended q e a).done ≡ true → q.len < QUEUE
room_len q e a d = ⊎_elim full (λ l. l) (le_or_lt QUEUE q.len)
  where
    full : QUEUE ≤ q.len → q.len < QUEUE
    full l = absurd (false≢true (sym (ap (λ y. y.done) (appended_full q e a l)) ∙ d))

-- nothing waits before it: it comes out as it went in, and the queue is as it was
through_empty : (n : ℕ) (xs : List Item) (e a : ℤ) → n ≡ 0 → xs ≡ replicate QUEUE no_item
    → removed (appended (record { len = n; items = xs }) e a).queue
    ≡ record { done = true; front = item e a; queue = record { len = n; items = xs } }
unfolding removed appended
through_empty n xs e a z f = rw (z, f)

-- ---- the three ways

module _ (q : Queue) (e a : ℤ) where
  pub pass_full : {f : Queue} → appended_by (Err f) ≡ appended q e a → Passes q e a None q
  pass_full g = (sym (ap (λ y. y.done) g), refl)

  pub pass_empty : q.len ≡ 0 → Free q → Passes q e a (Some (item e a)) q
  pass_empty z f =
      let t = through_empty q.len q.items e a z none_there in
      (ap (λ y. y.done) (appended_room q e a (omega (arith, z))), sym (ap (λ x. x.front) t), sym (ap (λ x. x.queue) t))
    where
      none_there : q.items ≡ replicate QUEUE no_item
      none_there = all_free q.items (subst (λ m. every is_none (drop m q.items) ≡ true) z f.none) ∙ ap (λ m. replicate m no_item) f.whole

  pub pass_on : {n : Queue} → appended_by (Ok n) ≡ appended q e a → (r : Option Item) (left : Queue) → removed_by r left ≡ removed n
      → Passes q e a r left
  pass_on {n} g (Some x) left h =
      let y : removed n ≡ removed (appended q e a).queue = ap (λ b. removed b.queue) g in
      (sym (ap (λ b. b.done) g), ap (λ b. b.front) (h ∙ y), ap (λ b. b.queue) (h ∙ y))
  pass_on {n} g None left h =
      let d : (appended q e a).done ≡ true = sym (ap (λ b. b.done) g) in
      let y : removed n ≡ removed (appended q e a).queue = ap (λ b. removed b.queue) g in
      absurd (false≢true (ap (λ b. b.done) (h ∙ y) ∙ is_taken q e a (room_len q e a d)))
