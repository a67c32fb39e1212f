-- No action has two owners: the entry, exit and default actions of all states and the actions of all transitions are together no more
-- than the chart's actions. Assumes nothing.
use mathlib.Core.Path.{◌≡◌}
use Prim.Native.Nat.{◌+◌, ◌≤◌, ℕ}
use native.Mathlib.Omega.{arith}
use mathlib.Core.Bool.{Bool, cond, false, true}
use mathlib.Core.List.{List, [], ◌∷◌}
use lib.ListN.{length}
use lib.Dec.{eqb}
use borrow.Author.Tests.{ne_eqb}
use Rattle.meaning.specs.Chart.{Chart}
use Rattle.meaning.specs.Effects.{acts_in, acts_of, same_owner}
use Rattle.meaning.specs.Lists.{from}
use Rattle.meaning.specs.Tree.{all_states, all_transitions}
use Rattle.meaning.specs.declared.chart.ActRow.{ActRow}
use Rattle.meaning.specs.declared.chart.Owner.{Owner}
use Rattle.meaning.specs.declared.chart.Owner.TheVariants.{DefaultOf as default_of, EntryOf as entry_of, ExitOf as exit_of}
use Rattle.meaning.specs.declared.chart.Owner.TheVariants.{TransitionOf as transition_of}
use Rattle.plan_laws.proofs.Totals.{total, total_most, total_when, total_same, total_sum}

-- how many actions an owner has
unfoldable pub acts_many : Chart → Owner → ℕ
acts_many c o = length (acts_of c o)

-- how many the owners of one kind have, over a list of their numbers
abbrev pub owned : Chart → (ℕ → Owner) → List ℕ → ℕ
owned c kind ns = total (λ n. acts_many c (kind n)) ns

-- 1 if so
bit : Bool → ℕ
bit b = cond b 1 0

-- ---- one row more

bit_long : {A : Type 0} (b : Bool) (x : A) (l : List A) → length (cond b (x ∷ l) l) ≤ bit b + length l
unfolding bit
bit_long true x l = omega arith
bit_long false x l = omega arith

-- of the rows' actions, those of a kind of owner
of_kind : List ActRow → (ℕ → Owner) → List ℕ → ℕ
of_kind rs kind ns = total (λ n. length (acts_in rs (kind n))) ns

-- how many owners of a kind are the owner o
hits : Owner → (ℕ → Owner) → List ℕ → ℕ
hits o kind ns = total (λ n. bit (same_owner (kind n) o)) ns

one_row : (r : ActRow) (rs : List ActRow) (kind : ℕ → Owner) (ns : List ℕ)
    → of_kind (r ∷ rs) kind ns ≤ hits r.owner kind ns + of_kind rs kind ns
unfolding of_kind hits acts_in
one_row r rs kind ns = omega (
  arith,
  total_most (λ n. length (acts_in (r ∷ rs) (kind n))) (λ n. bit (same_owner (kind n) r.owner) + length (acts_in rs (kind n)))
      (λ n. bit_long (same_owner (kind n) r.owner) r.act (acts_in rs (kind n))) ns,
  total_sum (λ n. bit (same_owner (kind n) r.owner)) (λ n. length (acts_in rs (kind n))) ns,
)

-- a number is its own once
hit_once : (m a n : ℕ) → total (λ x. bit (eqb x m)) (from a n) ≤ 1
unfolding bit
hit_once m a n = total_when (λ x. eqb x m) m 1 a n (λ x e. ne_eqb x m e)

no_hit : (ns : List ℕ) → total (λ n. bit false) ns ≡ 0
unfolding bit
no_hit ns = omega (arith, total_same 0 ns)

module _ (n m : ℕ) where
  one_owner : (o : Owner)
      → hits o entry_of (from 0 n) + hits o exit_of (from 0 n) + hits o default_of (from 0 n) + hits o transition_of (from 0 m) ≤ 1
  unfolding hits same_owner
  one_owner (entry_of s) = omega (arith, hit_once s 0 n, no_hit (from 0 n), no_hit (from 0 m))
  one_owner (exit_of s) = omega (arith, hit_once s 0 n, no_hit (from 0 n), no_hit (from 0 m))
  one_owner (default_of s) = omega (arith, hit_once s 0 n, no_hit (from 0 n), no_hit (from 0 m))
  one_owner (transition_of t) = omega (arith, hit_once t 0 m, no_hit (from 0 n))

  all_kinds : List ActRow → ℕ
  all_kinds rs =
      of_kind rs entry_of (from 0 n) + of_kind rs exit_of (from 0 n) + of_kind rs default_of (from 0 n)
      + of_kind rs transition_of (from 0 m)

  rows_owned : (rs : List ActRow) → all_kinds rs ≤ length rs
  unfolding all_kinds of_kind acts_in
  rows_owned [] = omega (arith, total_same {A = ℕ} 0 (from 0 n), total_same {A = ℕ} 0 (from 0 m))
  rows_owned (r ∷ rs) = omega (
    arith,
    rows_owned rs,
    one_owner r.owner,
    one_row r rs entry_of (from 0 n),
    one_row r rs exit_of (from 0 n),
    one_row r rs default_of (from 0 n),
    one_row r rs transition_of (from 0 m),
  )

-- how many entry actions, exit actions and default actions a chart has
abbrev pub entries : Chart → ℕ
entries c = owned c entry_of (all_states c)

abbrev pub exits : Chart → ℕ
exits c = owned c exit_of (all_states c)

abbrev pub defaults : Chart → ℕ
defaults c = owned c default_of (all_states c)

-- the actions of all owners are no more than the chart's
pub all_owned : (c : Chart)
    → entries c + exits c + defaults c + owned c transition_of (all_transitions c) ≤ length c.actions
unfolding acts_many acts_of all_states all_transitions all_kinds of_kind
all_owned c = rows_owned (length c.states) (length c.transitions) c.actions
