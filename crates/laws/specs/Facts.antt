-- Facts in which contracts and theorems speak of charts: what holds of each element of a list; the tree of a chart that keeps R2; a way
-- down that goes on with children; source and target of a transition that keeps R6. Assumes nothing.
use Rattle.std.specs.Prelude.{◌≡◌, ◌⊎◌, ◌<◌, ◌≤◌, suc, ℕ, true, List, [], ◌∷◌, length}
use Rattle.meaning.specs.Chart.{Chart}
use Rattle.meaning.specs.Entry.{Way, defaults, on_to}
use Rattle.meaning.specs.Tree.{children, default_child, is_child, kind_of, parent_of}
use Rattle.meaning.specs.declared.chart.Kind.TheVariants.{B as kind_b, O as kind_o}
use Rattle.meaning.specs.declared.chart.Target.{Target}
use Rattle.meaning.specs.declared.chart.Target.TheVariants.{History as history, InPlace as in_place, To as to}

-- P holds of each element
pub data Each {A : Type 0} (P : A → Type 0) : List A → Type 0 where
  none_left : Each P []
  one_more : {x : A} {xs : List A} → P x → Each P xs → Each P (x ∷ xs)

-- d is a proper descendant of s
pub data Under (c : Chart) (s : ℕ) : ℕ → Type 0 where
  child : {n : ℕ} → parent_of c (suc n) ≡ s → Under c s (suc n)
  deeper : {n : ℕ} → Under c s (parent_of c (suc n)) → Under c s (suc n)

-- R2
pub record Ordered (c : Chart) : Type 0 where
  pub falls : (n : ℕ) → parent_of c (suc n) ≤ n
  pub follows : (n : ℕ) → suc n < length c.states → (parent_of c (suc n) ≡ n) ⊎ Under c (parent_of c (suc n)) n

-- the way goes on with children, and b states have none
pub record Sound (c : Chart) (way : ℕ → Way) : Type 0 where
  pub ordered : Ordered c
  pub on : (s d : ℕ) → kind_of c s ≡ kind_o → way s ≡ on_to d → (is_child c s d ≡ true) × (d < length c.states)
  pub by : (s : ℕ) → kind_of c s ≡ kind_o → way s ≡ defaults
      → (is_child c s (default_child c s) ≡ true) × (default_child c s < length c.states)
  pub leaf : (s : ℕ) → kind_of c s ≡ kind_b → children c s ≡ []

-- a target is a state other than the root, a history's owner an o state, and the source is not the root
abbrev pub TargetFacts : Chart → ℕ → Target → Type 0
TargetFacts c s (to d) = (d < length c.states) × (0 < d) × (0 < s)
TargetFacts c s (history b) = (b < length c.states) × (0 < b) × (kind_of c b ≡ kind_o) × (0 < s)
TargetFacts c s in_place = Unit {0}
