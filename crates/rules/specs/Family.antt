-- R3 of 01 by counts: what one pass over the states has counted at each parent. Assumes nothing.
use Rattle.std.specs.Prelude.{ℕ, ◌<◌, ◌≡◌, Bool, false, ◌&&◌, List, length, get_or, eqb, leb}
use Rattle.sizes.specs.Sizes.{STATES}
use Rattle.meaning.specs.declared.chart.Kind.{Kind}
use Rattle.meaning.specs.declared.chart.Kind.TheVariants.{O as kind_o, A as kind_a, B as kind_b}
use Rattle.meaning.specs.Lists.{every, keep, from}
use Rattle.meaning.specs.Chart.{Chart}
use Rattle.meaning.specs.Tree.{kind_of, is_o, is_child}
use Rattle.rules.specs.declared.states.Offspring.{Offspring}

-- the children of s among the first n states
unfoldable pub young : Chart → ℕ → ℕ → List ℕ
young c n s = keep (is_child c s) (from 0 n)

-- what stands past the end of a list of them
abbrev pub nobody : Offspring
nobody = record { count = 0; plain = false }

-- at each place s: how many children s has among the first n states, and whether all of those are o
pub record Family (c : Chart) (n : ℕ) (families : List Offspring) : Type 0 where
  pub long : length families ≡ STATES
  pub counted : (s : ℕ) → s < STATES → (get_or families s nobody).count ≡ length (young c n s)
  pub told : (s : ℕ) → s < STATES → (get_or families s nobody).plain ≡ every (λ d. is_o (kind_of c d)) (young c n s)

-- R3 "b has no child, o at least one, a at least two, all of them o"
unfoldable pub count_fits_kind : Kind → ℕ → Bool → Bool
count_fits_kind kind_o n plain = leb 1 n
count_fits_kind kind_a n plain = leb 2 n && plain
count_fits_kind kind_b n plain = eqb n 0
