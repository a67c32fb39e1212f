-- Events as lent numbers (promises/specs/Replay: items_of), and replay over any numbers. Assumes nothing.
use mathlib.Core.Path.{◌≡◌, refl, sym, ap, ◌∙◌}
use Prim.Native.Nat.{ℕ, zero, suc, ◌+◌, ◌*◌, ◌/◌, ◌≤◌, ◌<◌}
use native.Mathlib.Omega.{arith}
use mathlib.Core.Bool.{true, false}
use mathlib.Core.List.{List, [], ◌∷◌}
use lib.ListN.{length, get_or, take}
use lib.IntN.{ℤ, pos}
use Rattle.queue.specs.Numbers.{places}
use Rattle.queue.specs.Queue.{item, no_item}
use Rattle.queue.proofs.Numbers.{places_at}
use Rattle.invariants.specs.Good.{Sized}
use Rattle.meaning.specs.WellFormed.{plan_by, well_formed}
use Rattle.meaning.specs.declared.State.{State}
use Rattle.plan_invariants.specs.Replay.{replay_examined, replay_once}
use Rattle.plan_invariants.proofs.Replay.{replay_tests_once}
use Rattle.promises.specs.Replay.{course, items_of, replay, replay_by}

-- ---- how many there are

pub places_few : (ns : List ℤ) → 2 * length (places ns) ≤ length ns
unfolding places
places_few [] = omega arith
places_few (e ∷ []) = omega arith
places_few (e ∷ a ∷ ns) = let h = places_few ns in omega (arith, h)

pub places_enough : (ns : List ℤ) (n : ℕ) → 2 * n ≤ length ns → n ≤ length (places ns)
unfolding places
places_enough [] n h = omega (arith, h)
places_enough (e ∷ []) n h = omega (arith, h)
places_enough (e ∷ a ∷ ns) zero h = omega arith
places_enough (e ∷ a ∷ ns) (suc n) h = let g = places_enough ns n (omega (arith, h)) in omega (arith, g)

-- half as many as numbers
pub how_many : (ns : List ℤ) → length (items_of ns) ≡ length ns / 2
how_many ns =
    let f = places_few ns in
    let g = places_enough ns (length ns / 2) (omega arith) in
    omega (arith, f, g)

-- the first so many of them are said by the numbers before the next one
one_more : (d : ℕ) → ((xs : List ℤ) → places (take (2 * d) xs) ≡ take d (places xs)) → (ns : List ℤ)
    → places (take (suc (suc (2 * d))) ns) ≡ take (suc d) (places ns)
unfolding places
one_more d f [] = refl
one_more d f (e ∷ []) = refl
one_more d f (e ∷ a ∷ ns) = ap (λ xs. item e a ∷ xs) (f ns)

pub first_of : (d : ℕ) (ns : List ℤ) → items_of (take (2 * d) ns) ≡ take d (items_of ns)
unfolding places
first_of zero ns = refl
first_of (suc d) ns =
    let s : 2 * suc d ≡ suc (suc (2 * d)) = omega arith in
    ap (λ n. places (take n ns)) s ∙ one_more d (λ xs. first_of d xs) ns

-- the event at a place, with its argument
pub event_at : (ns : List ℤ) (d : ℕ) (e a : ℤ) → d < length (items_of ns) → e ≡ get_or ns (2 * d) (pos 0)
    → a ≡ get_or ns (2 * d + 1) (pos 0) → get_or (items_of ns) d no_item ≡ item e a
event_at ns d e a l f g =
    let h = places_few ns in
    let s : suc (2 * d) ≡ 2 * d + 1 = omega arith in
    places_at ns d (pos 0) (omega (arith, l, h))
    ∙ ap (λ x. item x (get_or ns (suc (2 * d)) (pos 0))) (sym f)
    ∙ ap (item e) (ap (λ j. get_or ns j (pos 0)) s ∙ sym g)

-- ---- over any numbers

module _ (ns : List ℤ) (u : State) (n : ℕ) where
  pub replay_none : (ev : List ℤ) → length ev < 2 → replay ns u (items_of ev) n ≡ course 0 0 u []
  unfolding replay replay_by places
  replay_none [] h = refl
  replay_none (e ∷ []) h = refl
  replay_none (e ∷ a ∷ ev) h = absurd (omega (arith, h))

  module _ (z : Sized u) where
    pub replay_5 : (ev : List ℤ) → 2 ≤ length ev → well_formed ns ≡ false → replay ns u (items_of ev) n ≡ course 0 5 u []
    unfolding replay_once places
    replay_5 [] h f = absurd (omega (arith, h))
    replay_5 (e ∷ []) h f = absurd (omega (arith, h))
    replay_5 (e ∷ a ∷ ev) h f = replay_tests_once ns u z (item e a ∷ places ev) n
        ∙ ap (λ b. elim b [ true ↦ replay_examined (plan_by ns) u (item e a ∷ places ev) n | false ↦ course 0 5 u [] ]) f

    pub replay_is : (ev : List ℤ) → 2 ≤ length ev → well_formed ns ≡ true
        → replay ns u (items_of ev) n ≡ replay_examined (plan_by ns) u (items_of ev) n
    unfolding replay_once places
    replay_is [] h f = absurd (omega (arith, h))
    replay_is (e ∷ []) h f = absurd (omega (arith, h))
    replay_is (e ∷ a ∷ ev) h f = replay_tests_once ns u z (item e a ∷ places ev) n
        ∙ ap (λ b. elim b [ true ↦ replay_examined (plan_by ns) u (item e a ∷ places ev) n | false ↦ course 0 5 u [] ]) f
