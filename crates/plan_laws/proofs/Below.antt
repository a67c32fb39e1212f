-- The states that a firing leaves or enters are states of the chart below the one it starts from. Assumes nothing.
use mathlib.Core.Path.{subst, sym}
use Prim.Native.Nat.{◌<◌, ◌≤◌, suc, zero, ℕ}
use native.Mathlib.Omega.{arith}
use lib.ListN.{length}
use Rattle.laws.specs.Facts.{Each, Sound, none_left, one_more}
use Rattle.laws.proofs.Lists.{each_both, each_kept, each_mapped, each_range, each_weaker}
use Rattle.laws.proofs.Reach.{pass_states, reach}
use Rattle.laws.proofs.Sound.{SoundChart}
use Rattle.laws.proofs.Ways.{descendants_range}
use Rattle.meaning.specs.Chart.{Chart}
use Rattle.meaning.specs.Entry.{Way, all_below, state_of}
use Rattle.meaning.specs.Lists.{from, has}
use Rattle.meaning.specs.Tree.{all_states, ancestors, descendants}

each_from : (a n : ℕ) → Each (λ x. a ≤ x) (from a n)
unfolding from
each_from a zero = none_left
each_from a (suc n) = one_more {x = a} (omega arith)
    (each_weaker (λ x. suc a ≤ x) (λ x. a ≤ x) (from (suc a) n) (λ x l. omega arith) (each_from (suc a) n))

module _ (c : Chart) (h : SoundChart c) (b : ℕ) (l : b < length c.states) where
  pub descendants_each : Each (λ d. (b < d) × (d < length c.states)) (descendants c b)
  unfolding descendants all_states
  descendants_each = each_both (λ d. b < d) (λ d. d < length c.states) (descendants c b)
      (subst (Each (λ d. b < d)) (sym (descendants_range c h b l)) (each_from (suc b) (length (descendants c b))))
      (each_kept (λ d. d < length c.states) (λ d. has b (ancestors c d)) (from 0 (length c.states))
      (each_range 0 (length c.states) (length c.states) (omega arith)))

  pub states_each : Each (λ d. d < length c.states) (descendants c b)
  states_each =
      each_weaker (λ d. (b < d) × (d < length c.states)) (λ d. d < length c.states) (descendants c b) (λ d q. q.1) descendants_each

  pub visits_each : (way : ℕ → Way) → Sound c way → Each (λ v. state_of v < length c.states) (all_below c way b)
  visits_each way g = each_mapped (λ d. d < length c.states) state_of (all_below c way b)
      (subst (Each (λ d. d < length c.states)) (sym (pass_states c way g b l))
      (each_kept (λ d. d < length c.states) (λ x. reach c way b x x) (descendants c b) states_each))
