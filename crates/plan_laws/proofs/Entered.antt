-- How many instructions enter states: below a scope, below the root at the start, and towards the owner of a history, whose default
-- arm enters only what the path does not. Assumes nothing.
use mathlib.Core.Path.{◌∙◌, ◌≡◌, ap, refl, sym}
use Prim.Native.Nat.{◌*◌, ◌+◌, ◌-◌, ◌<◌, ◌≤◌, suc, ℕ}
use native.Mathlib.Omega.{arith}
use mathlib.Core.Bool.{Bool, ◌&&◌, cond, false, true, true≢false}
use mathlib.Core.List.{List, [], ◌++◌, ◌∷◌}
use lib.ListN.{length, length-append}
use lib.Dec.{eqb}
use borrow.Author.Tests.{eq-eqb, ne_eqb}
use Rattle.laws.proofs.Lists.{keep_within}
use Rattle.laws.proofs.Descent.{picks}
use Rattle.laws.specs.Facts.{Sound, Under, child, deeper}
use Rattle.laws.proofs.Preorder.{sub_kept, sub_run}
use Rattle.laws.proofs.Reach.{pass_states, reach, reached}
use Rattle.laws.proofs.Sound.{SoundChart}
use Rattle.laws.proofs.Tree.{has_under, under_has, under_trans}
use Rattle.laws.proofs.Ways.{defaults_sound, owner_sound}
use Rattle.meaning.specs.Chart.{Chart}
use Rattle.meaning.specs.Compile.{arms, arms_of, default_arm, enter_code, start_block, stored_arm, towards_code, visit_code}
use Rattle.meaning.specs.Entry.{Visit, Way, all_below, by_defaults, state_of, towards_owner}
use Rattle.meaning.specs.Lists.{concat_map, from, has, keep}
use Rattle.meaning.specs.Tree.{all_states, ancestors, descendants, kind_of, parent_of}
use Rattle.meaning.specs.declared.chart.Kind.TheVariants.{O as kind_o}
use Rattle.meaning.specs.declared.chart.Owner.TheVariants.{DefaultOf as default_of, EntryOf as entry_of}
use Rattle.meaning.specs.declared.plan.Instr.TheVariants.{SkipEmpty as skip_empty}
use Rattle.plan_laws.proofs.Lines.{enter_long, stored_lines, visits_lines, whole_state}
use Rattle.plan_laws.proofs.Owned.{acts_many, defaults, entries}
use Rattle.plan_laws.proofs.Totals.{length_collected, length_from, total, total_apart, total_kept, total_mapped}
use Rattle.plan_laws.proofs.Totals.{total_most, total_when, total_part, total_same, total_sum}

module _ (c : Chart) (h : SoundChart c) where
  -- ---- below a state

  -- a state and those below it are among all
  from_state : (f : ℕ → ℕ) (s : ℕ) → s < length c.states → f s + total f (descendants c s) ≤ total f (all_states c)
  unfolding all_states total from
  from_state f s l =
      let m : ℕ = length c.states - suc s in
      let e : suc s + m ≡ length c.states = omega arith in
      let k : ℕ = (sub_run c h.ordered s m e).k in
      let q : s + (suc k + (m - k)) ≡ length c.states = omega (arith, (sub_run c h.ordered s m e).fits) in
      omega (arith, ap (total f) (sub_kept c h.ordered s m e), total_part f s (suc k) (m - k), ap (λ i. total f (from 0 i)) q)

  all_whole : total (whole_state c) (all_states c) ≡ length c.states + entries c + defaults c
  unfolding whole_state all_states
  all_whole = omega (
    arith,
    total_sum (λ s. 1 + acts_many c (entry_of s)) (λ s. acts_many c (default_of s)) (from 0 (length c.states)),
    total_sum (λ s. 1) (λ s. acts_many c (entry_of s)) (from 0 (length c.states)),
    total_same 1 (from 0 (length c.states)),
    length_from 0 (length c.states),
  )

  below_lines : (way : ℕ → Way) → Sound c way → (s : ℕ) → s < length c.states
      → length (concat_map (visit_code c) (all_below c way s)) ≤ acts_many c (default_of s) + total (whole_state c) (descendants c s)
  below_lines way g s l = omega (arith, visits_lines c way g s l, total_kept (whole_state c) (λ x. reach c way s x x) (descendants c s))

  -- "For each entered state, ..: default actions where due, IN, entry actions"
  pub entry_lines : (way : ℕ → Way) → Sound c way → (s : ℕ) → s < length c.states
      → length (concat_map (visit_code c) (all_below c way s)) ≤ length c.states + entries c + defaults c
  unfolding whole_state
  entry_lines way g s l = omega (arith, below_lines way g s l, from_state (whole_state c) s l, all_whole)

  pub start_lines : length (start_block c) ≤ length c.states + entries c + defaults c
  unfolding start_block whole_state
  start_lines =
      let l : 0 < length c.states = omega (arith, h.two) in
      omega (
        arith,
        length-append (enter_code c 0) (concat_map (visit_code c) (all_below c by_defaults 0)),
        enter_long c 0,
        below_lines by_defaults (defaults_sound c h) 0 l,
        from_state (whole_state c) 0 l,
        all_whole,
      )

and_none : (a b : Bool) → b ≡ false → (a && b) ≡ false
and_none true b e = e
and_none false b e = refl

-- ---- towards the owner b of a history, from a state s above it

module _ (c : Chart) (h : SoundChart c) (b s : ℕ) (o : kind_of c b ≡ kind_o) (u : Under c s b)
    (l : b < length c.states) (m : s < length c.states) where
  on_path : ℕ → Bool
  on_path x = reach c (towards_owner c b) s x x

  picks_none : (x p : ℕ) → p ≡ b → picks c (kind_of c p) (towards_owner c b p) p x ≡ false
  unfolding picks towards_owner
  picks_none x p e = rw (e, o, eq-eqb b b refl)

  -- the path goes no further than the owner
  off_path : (x : ℕ) → Under c b x → on_path x ≡ false
  unfolding on_path
  off_path x (child {n} e) =
      (reached c (towards_owner c b) h.ordered s).step n (under_trans u (child e)) ∙ rw (picks_none (suc n) (parent_of c (suc n)) e)
  off_path x (deeper {n} v) =
      let p : ℕ = parent_of c (suc n) in
      (reached c (towards_owner c b) h.ordered s).step n (under_trans u (deeper v))
      ∙ and_none (picks c (kind_of c p) (towards_owner c b p) p (suc n)) (on_path p) (off_path p v)

  -- so the states of the path and those below the owner are together among those below s
  apart : (f : ℕ → ℕ) → total f (keep on_path (descendants c s)) + total f (descendants c b) ≤ total f (descendants c s)
  unfolding descendants
  apart f = omega (
    arith,
    total_apart f on_path (λ x. has b (ancestors c x)) (λ x p q. true≢false (sym p ∙ off_path x (has_under c b x q))) (descendants c s),
    ap (total f) (keep_within (λ x. has b (ancestors c x)) (λ x. has s (ancestors c x))
        (λ x q. under_has c h.ordered s x (under_trans u (has_under c b x q))) (all_states c)),
  )

  -- the owner is entered at most once
  owner_once : (k : ℕ) → total (λ v. cond (eqb (state_of v) b) k 0) (all_below c (towards_owner c b) s) ≤ k
  unfolding descendants all_states
  owner_once k = omega (
    arith,
    total_mapped f state_of (all_below c (towards_owner c b) s),
    ap (total f) (pass_states c (towards_owner c b) (owner_sound c h b l) s m),
    total_kept f (λ x. reach c (towards_owner c b) s x x) (descendants c s),
    total_kept f (λ x. has s (ancestors c x)) (from 0 (length c.states)),
    total_when (λ x. eqb x b) b k 0 (length c.states) (λ x e. ne_eqb x b e),
  )
    where
      f : ℕ → ℕ
      f x = cond (eqb x b) k 0

  towards_long : (v : Visit) → length (towards_code c b v) ≤ length (visit_code c v) + cond (eqb (state_of v) b) (length (arms c b)) 0
  unfolding towards_code
  towards_long v = go (eqb (state_of v) b)
    where
      go : (t : Bool)
          → length (visit_code c v ++ elim t [ true ↦ arms c b | false ↦ [] ]) ≤ length (visit_code c v) + cond t (length (arms c b)) 0
      go true = omega (arith, length-append (visit_code c v) (arms c b))
      go false = omega (arith, length-append (visit_code c v) [])

  towards_lines : length (concat_map (towards_code c b) (all_below c (towards_owner c b) s))
      ≤ length (concat_map (visit_code c) (all_below c (towards_owner c b) s)) + length (arms c b)
  towards_lines =
      let vs : List Visit = all_below c (towards_owner c b) s in
      omega (
        arith,
        length_collected (towards_code c b) vs,
        total_most (λ v. length (towards_code c b v)) (λ v. length (visit_code c v) + cond (eqb (state_of v) b) (length (arms c b)) 0)
            towards_long vs,
        total_sum (λ v. length (visit_code c v)) (λ v. cond (eqb (state_of v) b) (length (arms c b)) 0) vs,
        length_collected (visit_code c) vs,
        owner_once (length (arms c b)),
      )

  -- the path and the default arm, then the stored arm and the two skips
  pub history_lines : length (concat_map (towards_code c b) (all_below c (towards_owner c b) s))
      ≤ (length c.states + entries c + 2 * defaults c) + (3 * length c.states + entries c + 2)
  unfolding arms arms_of default_arm whole_state on_path
  history_lines = omega (
    arith,
    towards_lines,
    visits_lines c (towards_owner c b) (owner_sound c h b l) s m,
    length-append (default_arm c b) (skip_empty b (length (stored_arm c b)) ∷ stored_arm c b),
    below_lines c h by_defaults (defaults_sound c h) b l,
    apart (whole_state c),
    from_state c h (whole_state c) s m,
    all_whole c h,
    from_state c h (λ x. acts_many c (default_of x)) b l,
    stored_lines c b,
  )
