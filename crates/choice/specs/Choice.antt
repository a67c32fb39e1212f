-- What the chooser says (01, "Enabled", "Chosen"), in the words of the definitions. Assumes nothing.
use Rattle.std.specs.Prelude.{◌≡◌, ℕ, ◌<◌, ◌≤◌, Bool, true, false, ◌&&◌, List, [], length, get_or, take, set, map, ℤ, eqb}
use Rattle.sizes.specs.Sizes.{VARIABLES, TRANSITIONS}
use Rattle.meaning.specs.declared.chart.Guard.{Guard}
use Rattle.meaning.specs.declared.chart.Guard.TheVariants.{Always as always, Compares as compares}
use Rattle.meaning.specs.declared.chart.TransRow.{TransRow}
use Rattle.queue.specs.Queue.{empty_queue}
use Rattle.meaning.specs.declared.State.{State}
use Rattle.meaning.specs.Chart.{Chart}
use Rattle.meaning.specs.Tree.{trans_row}
use Rattle.meaning.specs.Reaction.{chosen}
use Rattle.tree.specs.Aims.{Found}
use Rattle.choice.specs.declared.Span.{Span}
use Rattle.choice.specs.declared.Pick.{Pick}

-- a state of which only the active marks and the values matter
abbrev pub seen : List Bool → List ℤ → State
seen active vars = record { started = true; active = active; slots = []; vars = vars; queue = empty_queue }

-- a guard whose variable the state has a place for
abbrev pub Reads : Guard → Type 0
Reads always = Unit {0}
Reads (compares v s x) = v < VARIABLES

-- a row of this source and this trigger
unfoldable pub meant : TransRow → ℕ → ℕ → Bool
meant r s e = eqb r.source s && eqb r.trigger e

-- marks that tell of each source of a row with this trigger whether it is active
abbrev pub Sources : Chart → ℕ → List Bool → List Bool → Type 0
Sources c e active marks =
    (t : ℕ) → t < length c.transitions → (trans_row c t).trigger ≡ e
    → get_or marks (trans_row c t).source false ≡ get_or active (trans_row c t).source false

-- where nothing is picked yet
abbrev pub free : Pick
free = record { transition = 0; top = 0; end = 0 }

-- the chosen transitions, in the order in which they fire
abbrev pub picked : ℕ → List Pick → List ℕ
picked count picks = map (λ p. p.transition) (take count picks)

-- one more of them, with the top of its span, and where the states below that one end
abbrev pub noted : List Pick → ℕ → ℕ → Span → List Pick
noted picks count t r = set picks count record { transition = t; top = r.top; end = r.end }

-- what is carried beside each of them is what was found out of it
abbrev pub Carried : Chart → ℕ → List Pick → Type 0
Carried c count picks =
    (j : ℕ) → j < count → Found c (get_or picks j free).transition (get_or picks j free).top (get_or picks j free).end

-- what a step fires: the chosen of any state with these marks and values
pub record Chose (c : Chart) (e : ℕ) (active : List Bool) (vars : List ℤ) (count : ℕ) (picks : List Pick) : Type 0 where
  pub is : picked count picks ≡ chosen c e (seen active vars)
  pub few : count ≤ TRANSITIONS
  pub size : length picks ≡ TRANSITIONS
  pub carried : Carried c count picks
