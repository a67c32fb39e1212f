-- How many instructions the parts of a block have, in the order of 01, "A block": acts, exits, entries, the two arms of a history. A
-- state is left once and entered once by each part, so that each part has each state's actions at most once. Assumes nothing.
use mathlib.Core.Path.{◌∙◌, ◌≡◌, ap}
use Prim.Native.Nat.{◌*◌, ◌+◌, ◌<◌, ◌≤◌, suc, zero, ℕ}
use native.Mathlib.Omega.{arith}
use mathlib.Core.List.{List, ◌∷◌, reverse}
use lib.ListN.{length, length-append, length-map}
use Rattle.laws.specs.Facts.{Sound}
use Rattle.laws.proofs.Reach.{pass_states, reach}
use Rattle.meaning.specs.Chart.{Chart}
use Rattle.meaning.specs.Compile.{code_acts, enter_code, exit_code, exits_code, held_code, past_if_out, stored_arm, stored_code, visit_code}
use Rattle.meaning.specs.Effects.{acts_of}
use Rattle.meaning.specs.Entry.{Visit, Way, all_below, below, by_default, defaults, goes_on, on_to, plain, state_of, stops}
use Rattle.meaning.specs.Lists.{concat_map, from, has, keep}
use Rattle.meaning.specs.Tree.{all_states, ancestors, children, default_child, descendants, kind_of, parent_of}
use Rattle.meaning.specs.declared.chart.Kind.{Kind}
use Rattle.meaning.specs.declared.chart.Kind.TheVariants.{A as kind_a, B as kind_b, O as kind_o}
use Rattle.meaning.specs.declared.chart.Owner.{Owner}
use Rattle.meaning.specs.declared.chart.Owner.TheVariants.{DefaultOf as default_of, EntryOf as entry_of, ExitOf as exit_of}
use Rattle.meaning.specs.declared.plan.Instr.TheVariants.{Does as does}
use Rattle.plan_laws.proofs.Owned.{acts_many, entries, exits, owned}
use Rattle.plan_laws.proofs.Totals.{length_collected, length_from, total, total_collected, total_kept, total_mapped, total_most}
use Rattle.plan_laws.proofs.Totals.{total_reversed, total_same, total_sum}

module _ (c : Chart) where
  -- ---- one state

  pub acts_long : (o : Owner) → length (code_acts c o) ≡ acts_many c o
  unfolding code_acts acts_many
  acts_long o = length-map (acts_of c o) does

  pub enter_long : (s : ℕ) → length (enter_code c s) ≡ 1 + acts_many c (entry_of s)
  unfolding enter_code
  enter_long s = omega (arith, acts_long (entry_of s))

  exit_long : (s : ℕ) → length (exit_code c s) ≡ 2 + acts_many c (exit_of s)
  unfolding exit_code
  exit_long s = omega (arith, acts_long (exit_of s))

  -- a visit's default actions, where due
  due : Visit → ℕ
  due (plain s) = 0
  due (by_default p s) = acts_many c (default_of p)

  visit_long : (v : Visit) → length (visit_code c v) ≡ (1 + acts_many c (entry_of (state_of v))) + due v
  unfolding visit_code due state_of
  visit_long (plain s) = omega (arith, enter_long s)
  visit_long (by_default p s) =
      omega (arith, length-append (code_acts c (default_of p)) (enter_code c s), acts_long (default_of p), enter_long s)

  held_long : (x : Kind) (p d : ℕ) → length (held_code c x p d) ≤ 2 + acts_many c (entry_of d)
  unfolding held_code
  held_long kind_o p d = omega (arith, enter_long d)
  held_long kind_a p d = omega (arith, enter_long d)
  held_long kind_b p d = omega (arith, enter_long d)

  stored_long : (d : ℕ) → length (stored_code c d) ≤ 3 + acts_many c (entry_of d)
  unfolding stored_code past_if_out
  stored_long d = omega (arith, held_long (kind_of c (parent_of c d)) (parent_of c d) d)

  -- ---- a number and its actions, over the states below s

  below_total : (f : ℕ → ℕ) (s : ℕ) → total f (descendants c s) ≤ total f (all_states c)
  unfolding descendants
  below_total f s = total_kept f (λ d. has s (ancestors c d)) (all_states c)

  with_actions : (k : ℕ) (kind : ℕ → Owner)
      → total (λ s. k + acts_many c (kind s)) (all_states c) ≡ length c.states * k + owned c kind (all_states c)
  unfolding all_states
  with_actions k kind =
      let ss : List ℕ = from 0 (length c.states) in
      total_sum (λ s. k) (λ s. acts_many c (kind s)) ss
      ∙ ap (λ n. n + owned c kind ss) (total_same k ss ∙ ap (λ n. n * k) (length_from 0 (length c.states)))

  -- "for each state of the span, ..: SKIPOUT s k+1, OUT s, the actions"
  pub exits_lines : (s : ℕ) → length (exits_code c (descendants c s)) ≤ 2 * length c.states + exits c
  unfolding exits_code
  exits_lines s = omega (
    arith,
    length_collected (exit_code c) (reverse (descendants c s)),
    total_reversed (λ x. length (exit_code c x)) (descendants c s),
    total_most (λ x. length (exit_code c x)) (λ x. 2 + acts_many c (exit_of x)) (λ x. omega (arith, exit_long x)) (descendants c s),
    below_total (λ x. 2 + acts_many c (exit_of x)) s,
    with_actions 2 exit_of,
  )

  -- "SKIPOUT p past all of d; SKIPNOT p d k+1 if p is kind o; IN d; its actions"
  pub stored_lines : (b : ℕ) → length (stored_arm c b) ≤ 3 * length c.states + entries c
  unfolding stored_arm
  stored_lines b = omega (
    arith,
    length_collected (stored_code c) (descendants c b),
    total_most (λ x. length (stored_code c x)) (λ x. 3 + acts_many c (entry_of x)) stored_long (descendants c b),
    below_total (λ x. 3 + acts_many c (entry_of x)) b,
    with_actions 3 entry_of,
  )

  -- ---- entries

  -- a state's entry actions and its default's
  abbrev e : ℕ → ℕ
  e s = acts_many c (entry_of s)

  abbrev d : ℕ → ℕ
  d s = acts_many c (default_of s)

  -- a state's default actions are due at most once: for the child that it goes on with
  goes_due : (deep : ℕ → List Visit) (s : ℕ)
      → ((y : ℕ) → total due (deep y) ≤ d y + total (λ v. d (state_of v)) (deep y)) → (x : Kind) (w : Way)
      → total due (goes_on c deep s x w) ≤ d s + total (λ v. d (state_of v)) (goes_on c deep s x w)
  unfolding goes_on total due state_of
  goes_due deep s ih kind_o (on_to y) = omega (arith, ih y)
  goes_due deep s ih kind_o defaults = omega (arith, ih (default_child c s))
  goes_due deep s ih kind_o stops = omega arith
  goes_due deep s ih kind_a w = omega (
    arith,
    total_collected due (λ y. plain y ∷ deep y) (children c s),
    total_collected (λ v. d (state_of v)) (λ y. plain y ∷ deep y) (children c s),
    total_most (λ y. total due (plain y ∷ deep y)) (λ y. total (λ v. d (state_of v)) (plain y ∷ deep y)) (λ y. omega (arith, ih y))
        (children c s),
  )
  goes_due deep s ih kind_b w = omega arith

  below_due : (way : ℕ → Way) (f s : ℕ) → total due (below c way f s) ≤ d s + total (λ v. d (state_of v)) (below c way f s)
  unfolding below total
  below_due way zero s = omega arith
  below_due way (suc f) s = goes_due (below c way f) s (below_due way f) (kind_of c s) (way s)

  -- IN, a state's entry actions and its default's
  unfoldable pub whole_state : ℕ → ℕ
  whole_state s = (1 + e s) + d s

  -- "For each entered state, rising: default actions where due, IN, entry actions"
  pub visits_lines : (way : ℕ → Way) → Sound c way → (s : ℕ) → s < length c.states
      → length (concat_map (visit_code c) (all_below c way s)) ≤ d s + total whole_state (keep (λ x. reach c way s x x) (descendants c s))
  unfolding whole_state all_below
  visits_lines way g s l = omega (
    arith,
    length_collected (visit_code c) vs,
    total_most (λ v. length (visit_code c v)) (λ v. (1 + e (state_of v)) + due v) (λ v. omega (arith, visit_long v)) vs,
    total_sum (λ v. 1 + e (state_of v)) due vs,
    below_due way (length c.states) s,
    total_sum (λ v. 1 + e (state_of v)) (λ v. d (state_of v)) vs,
    total_mapped whole_state state_of vs,
    ap (total whole_state) (pass_states c way g s l),
  )
    where
      vs : List Visit
      vs = all_below c way s
