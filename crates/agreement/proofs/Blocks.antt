-- The block of a transition does what its firing does (01, "A block" and "Firing"), and the start block does what a start enters. To a
-- state and in place that holds from any context. To a history it holds from what stands between firings (`Whole`: a legal
-- configuration, filled slots that lead on): after the exits and the transition's actions nothing below the scope is in, the slots
-- still lead on, and on the path towards the owner nothing below it is entered. Assumes nothing.
use mathlib.Core.Path.{◌≡◌, ap, refl}
use Prim.Native.Nat.{◌<◌, suc, ℕ}
use native.Mathlib.Omega.{arith}
use mathlib.Core.Bool.{Bool, cond, false}
use mathlib.Core.List.{List, ◌++◌}
use lib.ListN.{length}
use lib.IntN.{ℤ}
use Rattle.agreement.proofs.Entered.{acts_do, enter_does, visits_do}
use Rattle.agreement.proofs.Exits.{exits_do}
use Rattle.agreement.proofs.Running.{Does, DoesWhere, append_does, append_does_where, block_does}
use Rattle.agreement.proofs.Towards.{itinerary_rises, towards_do}
use Rattle.invariants.proofs.Good.{acts_good}
use Rattle.invariants.specs.Good.{Good}
use Rattle.invariants.proofs.GoodReaction.{below_inside, leave_all_good}
use Rattle.invariants.proofs.Keeps.{acts_keep, gives_holds, holds_of}
use Rattle.invariants.proofs.Left.{Left, leave_all_leads, left_on, left_outside}
use Rattle.invariants.proofs.Stepping.{Whole}
use Rattle.laws.specs.Facts.{TargetFacts, Under}
use Rattle.laws.proofs.Scope.{scope_facts}
use Rattle.laws.proofs.Sound.{SoundChart}
use Rattle.laws.proofs.Steps.{Holds}
use Rattle.laws.proofs.Tree.{under_has, under_trans}
use Rattle.laws.proofs.Value.{SizedChart}
use Rattle.laws.proofs.Ways.{owner_sound}
use Rattle.meaning.specs.Chart.{Chart}
use Rattle.meaning.specs.Compile.{block, block_to, code_acts, enter_code, exits_code, start_block, towards_code, visit_code}
use Rattle.meaning.specs.Effects.{enter, perform_all}
use Rattle.meaning.specs.Entry.{Visit, all_below, by_defaults, towards, towards_owner, visit, visit_towards}
use Rattle.meaning.specs.Lists.{concat_map}
use Rattle.meaning.specs.Machine.{run_block, run_code}
use Rattle.meaning.specs.Reaction.{fire_to, leave_all}
use Rattle.meaning.specs.Steps.{◌then◌, each}
use Rattle.meaning.specs.Tree.{descendants, kind_of, scope, trans_row}
use Rattle.meaning.specs.Widget.{Ctx, is_active}
use Rattle.meaning.specs.declared.chart.Kind.TheVariants.{O as kind_o}
use Rattle.meaning.specs.declared.chart.Owner.TheVariants.{TransitionOf as transition_of}
use Rattle.meaning.specs.declared.chart.Target.{Target}
use Rattle.meaning.specs.declared.chart.Target.TheVariants.{History as history, InPlace as in_place, To as to}

-- ---- from any context

module _ (c : Chart) (a : ℤ) where
  to_does : (t s d : ℕ) → Does (run_code c.vars a (block_to c t s (to d))) (fire_to c a t s (to d))
  unfolding block_to fire_to
  to_does t s d =
      append_does c.vars a (exits_code c (descendants c (scope c s d))) _ (leave_all c a (descendants c (scope c s d))) _
      (exits_do c a (descendants c (scope c s d)))
      (append_does c.vars a (code_acts c (transition_of t)) _ (perform_all c a (transition_of t)) _ (acts_do c a (transition_of t))
      (visits_do c a (all_below c (towards c d) (scope c s d))))

  in_place_does : (t s : ℕ) → Does (run_code c.vars a (block_to c t s in_place)) (fire_to c a t s in_place)
  unfolding block_to fire_to
  in_place_does t s = acts_do c a (transition_of t)

  -- the start block enters the root and its defaults
  pub start_agrees : (k : Ctx) → run_block c.vars a (start_block c) k ≡ (enter c a 0 then each (visit c a) (all_below c by_defaults 0)) k
  unfolding start_block
  start_agrees k = block_does c.vars a (enter_code c 0 ++ concat_map (visit_code c) (all_below c by_defaults 0))
      (enter c a 0 then each (visit c a) (all_below c by_defaults 0)) k
      (append_does c.vars a (enter_code c 0) (concat_map (visit_code c) (all_below c by_defaults 0)) (enter c a 0)
      (each (visit c a) (all_below c by_defaults 0)) (enter_does c a 0) (visits_do c a (all_below c by_defaults 0)) k)

-- ---- to a history

module _ (c : Chart) (r : SoundChart c) (z : SizedChart c) (a : ℤ) where
  -- after the exits of a firing with scope s, which began with the marks on
  abbrev Exited : (ℕ → Bool) → ℕ → Ctx → Type 0
  Exited on s j = Left c on s j.state × Good c j

  exits_lead : (s : ℕ) → s < length c.states → (k : Ctx) → Whole c k
      → Holds (leave_all c a (descendants c s) k) (Exited (is_active k.state) s)
  exits_lead s l k w = holds_of (Exited (is_active k.state) s) (leave_all c a (descendants c s) k)
      (gives_holds (λ j. Left c (is_active k.state) s j.state) (Good c) (leave_all c a (descendants c s) k)
      (leave_all_leads c r a s l k w.0.config w.0.lead (omega (arith, z.states, w.1.sized.slots)))
      (leave_all_good c r z a s k w.1))

  acts_lead : (t s : ℕ) (on : ℕ → Bool) (k : Ctx) → Exited on s k → Holds (perform_all c a (transition_of t) k) (Exited on s)
  acts_lead t s on k w = holds_of (Exited on s) (perform_all c a (transition_of t) k)
      (gives_holds (λ j. Left c on s j.state) (Good c) (perform_all c a (transition_of t) k)
      (acts_keep (Left c on s) (left_outside c on s) c a (transition_of t) k w.0) (acts_good c r z a (transition_of t) k w.1))

  module _ (s b : ℕ) (ls : s < length c.states) (lb : b < length c.states) (kb : kind_of c b ≡ kind_o) (us : Under c s b) where
    abbrev visits : List Visit
    visits = all_below c (towards_owner c b) s

    -- below the owner, which lies under the scope, nothing is in
    clear : (on : ℕ → Bool) (x : ℕ) → Under c b x → left_on c on s x ≡ false
    unfolding left_on
    clear on x u = ap (λ t. cond t false (on x)) (under_has c r.ordered s x (under_trans us u))

    enters_do : (on : ℕ → Bool)
        → DoesWhere (Exited on s) (run_code c.vars a (concat_map (towards_code c b) visits)) (each (visit_towards c a b) visits)
    enters_do on k w =
        let g = owner_sound c r b lb in
        towards_do c r a b lb kb k.state.slots w.1.slots w.0.lead (suc s) visits (itinerary_rises c (towards_owner c b) g s ls)
        (below_inside c r (towards_owner c b) g s ls) (left_on c on s) (λ m. clear on) k
        (record { marks = w.0.marks; slots = refl; wide = omega (arith, z.states, w.1.sized.active) })

    -- the exits, the transition's actions, the entries
    history_does : (t : ℕ) → DoesWhere (Whole c)
        (run_code c.vars a (exits_code c (descendants c s) ++ (code_acts c (transition_of t) ++ concat_map (towards_code c b) visits)))
        (leave_all c a (descendants c s) then perform_all c a (transition_of t) then each (visit_towards c a b) visits)
    history_does t k w =
        append_does_where c.vars a (λ j. j ≡ k) (Exited on s) (exits_code c (descendants c s)) _ (leave_all c a (descendants c s)) _
        (λ j e. exits_do c a (descendants c s) j) (λ j e. rw e (exits_lead s ls k w))
        (append_does_where c.vars a (Exited on s) (Exited on s) (code_acts c (transition_of t)) _ (perform_all c a (transition_of t)) _
        (λ j h. acts_do c a (transition_of t) j) (acts_lead t s on) (enters_do on)) k refl
      where
        on : ℕ → Bool
        on = is_active k.state

  -- ---- the block of a transition

  block_to_does : (t s : ℕ) (x : Target) → TargetFacts c s x
      → DoesWhere (Whole c) (run_code c.vars a (block_to c t s x)) (fire_to c a t s x)
  unfolding block_to fire_to
  block_to_does t s (to d) f k w = to_does c a t s d k
  block_to_does t s (history b) f k w =
      let q = scope_facts c r s b f.3 f.1 in
      history_does (scope c s b) b q.inside f.0 f.2 q.above_target t k w
  block_to_does t s in_place f k w = in_place_does c a t s k

  -- the block does what the firing does, from all that is kept between firings
  pub block_agrees : (t : ℕ) → t < length c.transitions → (k : Ctx) → Whole c k
      → run_block c.vars a (block c t) k ≡ fire_to c a t (trans_row c t).source (trans_row c t).target k
  unfolding block
  block_agrees t l k w = block_does c.vars a (block_to c t (trans_row c t).source (trans_row c t).target)
      (fire_to c a t (trans_row c t).source (trans_row c t).target) k
      (block_to_does t (trans_row c t).source (trans_row c t).target (r.transitions t l).target k w)
