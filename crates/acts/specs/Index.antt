-- The index of a chart's actions: an owner's place in it, the next row of an owner, and what the index says. Assumes nothing.
use Rattle.std.specs.Prelude.{◌≡◌, ℕ, suc, ◌+◌, ◌-◌, ◌*◌, ◌<◌, cond, List, [], ◌∷◌, length, get_or, drop, ℤ}
use Rattle.sizes.specs.Sizes.{STATES, TRANSITIONS, ACTIONS}
use Rattle.meaning.specs.Chart.{Chart, no_action}
use Rattle.meaning.specs.declared.chart.Owner.{Owner}
use Rattle.meaning.specs.declared.chart.Owner.TheVariants.{EntryOf as entry_of, ExitOf as exit_of, DefaultOf as default_of}
use Rattle.meaning.specs.declared.chart.Owner.TheVariants.{TransitionOf as transition_of}
use Rattle.meaning.specs.declared.chart.ActRow.{ActRow}
use Rattle.meaning.specs.Effects.{same_owner}
use Rattle.meaning.specs.Value.{chart_of}
use Rattle.meaning.specs.Rules.{Ruled}

-- how many owners there can be: entry, exit and default of each state, and each transition
abbrev pub OWNERS : ℕ
OWNERS = 3 * STATES + TRANSITIONS

abbrev pub key : Owner → ℕ
key (entry_of s) = s
key (exit_of s) = STATES + s
key (default_of s) = 2 * STATES + s
key (transition_of t) = 3 * STATES + t

-- an owner that a chart of this size can have
abbrev pub Fits : Owner → Type 0
Fits (entry_of s) = s < STATES
Fits (exit_of s) = s < STATES
Fits (default_of s) = s < STATES
Fits (transition_of t) = t < TRANSITIONS

-- how many rows stand before the first one of the owner
unfoldable pub before_first : Owner → List ActRow → ℕ
before_first o [] = 0
before_first o (r ∷ rs) = cond (same_owner o r.owner) 0 (suc (before_first o rs))

-- the first row of the owner from row i on; one past the rows where there is none
unfoldable pub row_from : Chart → Owner → ℕ → ℕ
row_from c o i = i + before_first o (drop i c.actions)

-- how many rows there are from the first of an owner on, and from the next one of the same owner after each row on
pub record Indexed (c : Chart) (index : List ℕ) : Type 0 where
  pub size : length index ≡ OWNERS + ACTIONS
  pub first : (o : Owner) → Fits o → get_or index (key o) 0 ≡ length c.actions - row_from c o 0
  pub next : (i : ℕ) → i < length c.actions →
      get_or index (OWNERS + i) 0 ≡ length c.actions - row_from c (get_or c.actions i no_action).owner (suc i)

-- a chart that passes the rules, with its index
pub record Prepared (v : List ℤ) (index : List ℕ) : Type 0 where
  pub ruled : Ruled v
  pub indexed : Indexed (chart_of v) index
