-- The blocks of a chart that passes the rules: each piece names states, variables and events of the chart and constants in range, and
-- its skips stay within it. In the order of 01, "A block": acts, exits, entries, the two arms of a history, blocks. Assumes nothing.
use Rattle.std.specs.Prelude.{None, Some}
use mathlib.Core.Path.{◌≡◌, refl, subst, sym}
use Prim.Native.Nat.{◌<◌, suc, zero, ℕ}
use native.Mathlib.Omega.{arith}
use mathlib.Core.Bool.{Bool, cond, false, true}
use mathlib.Core.List.{List, [], ◌∷◌, map}
use lib.ListN.{length, length-append}
use lib.Dec.{eqb}
use Rattle.laws.specs.Facts.{Each, Sound, TargetFacts, none_left, one_more}
use Rattle.laws.proofs.Lists.{each_both, each_reversed, each_weaker}
use Rattle.laws.proofs.Rules.{ActFacts}
use Rattle.laws.proofs.Scope.{scope_facts}
use Rattle.laws.proofs.Sound.{SoundChart, acts_each, acts_sound}
use Rattle.laws.proofs.Value.{ActInRange, SizedChart}
use Rattle.laws.proofs.Ways.{defaults_sound, owner_sound, towards_sound}
use Rattle.meaning.specs.Chart.{Chart}
use Rattle.meaning.specs.Compile.{arms, arms_of, block, block_to, code_acts, default_arm, enter_code, exit_code, exits_code, held_code}
use Rattle.meaning.specs.Compile.{past_if_out, start_block, stored_arm, stored_code, towards_code, visit_code}
use Rattle.meaning.specs.Effects.{acts_of, o_parent}
use Rattle.meaning.specs.Lists.{concat_map}
use Rattle.meaning.specs.Entry.{Visit, Way, all_below, by_default, by_defaults, plain, state_of, towards, towards_owner}
use Rattle.meaning.specs.Tree.{descendants, is_o, kind_of, parent_of, scope, trans_row}
use Rattle.meaning.specs.declared.chart.Act.{Act}
use Rattle.meaning.specs.declared.chart.Act.TheVariants.{AddTo as add_to, Send as send, SetTo as set_to, TakeTo as take_to, Tell as tell}
use Rattle.meaning.specs.declared.chart.Kind.{Kind}
use Rattle.meaning.specs.declared.chart.Kind.TheVariants.{A as kind_a, B as kind_b, O as kind_o}
use Rattle.meaning.specs.declared.chart.Owner.{Owner}
use Rattle.meaning.specs.declared.chart.Owner.TheVariants.{DefaultOf as default_of, EntryOf as entry_of, ExitOf as exit_of}
use Rattle.meaning.specs.declared.chart.Owner.TheVariants.{TransitionOf as transition_of}
use Rattle.meaning.specs.declared.chart.Target.{Target}
use Rattle.meaning.specs.declared.chart.Target.TheVariants.{History as history, InPlace as in_place, To as to}
use Rattle.meaning.specs.declared.plan.Counts.{Counts}
use Rattle.meaning.specs.declared.plan.Instr.TheVariants.{Does as does, Out as go_out, SkipEmpty as skip_empty}
use Rattle.plan_laws.proofs.Below.{descendants_each, visits_each}
use Rattle.plan_laws.proofs.Fits.{ActFits, Piece, SlotFits, no_piece, one_instr, piece_joined, pieces_joined, skip_empty_piece}
use Rattle.plan_laws.proofs.Fits.{skip_full_piece, skip_not_piece, skip_out_piece}

-- the counts of a chart's plan
pub record CountsOf (c : Chart) (k : Counts) : Type 0 where
  pub states : k.states ≡ length c.states
  pub vars : k.vars ≡ length c.vars
  pub events : k.events ≡ c.events

module _ (c : Chart) (h : SoundChart c) (z : SizedChart c) (k : Counts) (q : CountsOf c k) where
  -- ---- acts

  act_fits : (x : Act) → ActFacts c x → ActInRange x → ActFits k x
  act_fits (set_to v x) f r = (omega (arith, q.vars, f.0), r)
  act_fits (add_to v x) f r = (omega (arith, q.vars), r)
  act_fits (take_to v) f r = omega (arith, q.vars)
  act_fits (send e x) f r = (f.0, omega (arith, q.events, f.1), r)
  act_fits (tell x) f r = r

  acts_each_fits : (o : Owner) → Each (ActFits k) (acts_of c o)
  acts_each_fits o = each_weaker (λ x. ActFacts c x × ActInRange x) (ActFits k) (acts_of c o) (λ x p. act_fits x p.0 p.1)
      (each_both (ActFacts c) ActInRange (acts_of c o) (acts_sound c h o) (acts_each ActInRange c z.acts_range o))

  does_piece : (xs : List Act) → Each (ActFits k) xs → Piece k (map does xs)
  does_piece [] none_left = no_piece
  does_piece (x ∷ xs) (one_more p ps) = one_instr p (does_piece xs ps)

  acts_piece : (o : Owner) → Piece k (code_acts c o)
  unfolding code_acts
  acts_piece o = does_piece (acts_of c o) (acts_each_fits o)

  -- ---- exits

  inside : (s : ℕ) → s < length c.states → s < k.states
  inside s l = omega (arith, q.states)

  parent_inside : (s : ℕ) → 0 < s → s < length c.states → parent_of c s < k.states
  parent_inside zero m l = absurd (omega arith)
  parent_inside (suc n) m l = omega (arith, q.states, h.ordered.falls n)

  slot_fits : (s : ℕ) → s < length c.states → SlotFits k (o_parent c s)
  unfolding o_parent
  slot_fits zero l = tt
  slot_fits (suc n) l = go (is_o (kind_of c (parent_of c (suc n))))
    where
      go : (b : Bool) → SlotFits k (cond b (Some (parent_of c (suc n))) None)
      go true = parent_inside (suc n) (omega arith) l
      go false = tt

  exit_piece : (s : ℕ) → s < length c.states → Piece k (exit_code c s)
  unfolding exit_code
  exit_piece s l =
      skip_out_piece k s _ _ (inside s l) (omega arith)
      (one_instr {i = go_out s (o_parent c s)} (inside s l, slot_fits s l) (acts_piece (exit_of s)))

  -- ---- entries

  enter_piece : (s : ℕ) → s < length c.states → Piece k (enter_code c s)
  unfolding enter_code
  enter_piece s l = one_instr (inside s l) (acts_piece (entry_of s))

  visit_piece : (v : Visit) → state_of v < length c.states → Piece k (visit_code c v)
  unfolding visit_code state_of
  visit_piece (plain s) l = enter_piece s l
  visit_piece (by_default p s) l = piece_joined k _ _ (acts_piece (default_of p)) (enter_piece s l)

  visits_piece : (way : ℕ → Way) → Sound c way → (s : ℕ) → s < length c.states → Piece k (concat_map (visit_code c) (all_below c way s))
  visits_piece way g s l = pieces_joined k (visit_code c) (λ v. state_of v < length c.states) visit_piece _ (visits_each c h s l way g)

  -- ---- the two arms

  held_piece : (x : Kind) (p d : ℕ) → p < k.states → d < length c.states → Piece k (held_code c x p d)
  unfolding held_code
  held_piece kind_o p d m l = skip_not_piece k p _ _ m (omega arith) (enter_piece d l) d (inside d l)
  held_piece kind_a p d m l = enter_piece d l
  held_piece kind_b p d m l = enter_piece d l

  stored_piece : (d : ℕ) → 0 < d → d < length c.states → Piece k (stored_code c d)
  unfolding stored_code past_if_out
  stored_piece d m l =
      let p : ℕ = parent_of c d in
      skip_out_piece k p _ _ (parent_inside d m l) (omega arith) (held_piece (kind_of c p) p d (parent_inside d m l) l)

  arms_piece : (b : ℕ) → b < length c.states → Piece k (arms c b)
  unfolding arms arms_of default_arm stored_arm
  arms_piece b l =
      skip_full_piece k b _ _ (inside b l)
      (omega (arith, length-append (default_arm c b) (skip_empty b (length (stored_arm c b)) ∷ stored_arm c b)))
      (piece_joined k _ _ (visits_piece by_defaults (defaults_sound c h) b l)
      (skip_empty_piece k b _ _ (inside b l) (omega arith)
      (pieces_joined k (stored_code c) (λ d. (b < d) × (d < length c.states)) (λ d p. stored_piece d (omega (arith, p.0)) p.1) _
      (descendants_each c h b l))))

  towards_piece : (b : ℕ) → b < length c.states → (v : Visit) → state_of v < length c.states → Piece k (towards_code c b v)
  unfolding towards_code
  towards_piece b l v m = piece_joined k _ _ (visit_piece v m) (go (eqb (state_of v) b))
    where
      go : (t : Bool) → Piece k (elim t [ true ↦ arms c b | false ↦ [] ])
      go true = arms_piece b l
      go false = no_piece

  -- ---- blocks

  exits_piece : (s : ℕ) → s < length c.states → Piece k (exits_code c (descendants c s))
  unfolding exits_code
  exits_piece s l = pieces_joined k (exit_code c) (λ d. (s < d) × (d < length c.states)) (λ d p. exit_piece d p.1) _
      (each_reversed (λ d. (s < d) × (d < length c.states)) (descendants c s) (descendants_each c h s l))

  block_to_piece : (t s : ℕ) (x : Target) → TargetFacts c s x → Piece k (block_to c t s x)
  unfolding block_to
  block_to_piece t s (to d) f =
      let x = scope c s d in
      let i = (scope_facts c h s d f.2 f.1).inside in
      piece_joined k _ _ (exits_piece x i)
      (piece_joined k _ _ (acts_piece (transition_of t)) (visits_piece (towards c d) (towards_sound c h d f.0) x i))
  block_to_piece t s (history b) f =
      let x = scope c s b in
      let i = (scope_facts c h s b f.3 f.1).inside in
      piece_joined k _ _ (exits_piece x i) (piece_joined k _ _ (acts_piece (transition_of t))
      (pieces_joined k (towards_code c b) (λ v. state_of v < length c.states) (towards_piece b f.0) _
      (visits_each c h x i (towards_owner c b) (owner_sound c h b f.0))))
  block_to_piece t s in_place f = acts_piece (transition_of t)

  pub block_piece : (t : ℕ) → t < length c.transitions → Piece k (block c t)
  unfolding block
  block_piece t l = block_to_piece t (trans_row c t).source (trans_row c t).target (h.transitions t l).target

  pub start_piece : Piece k (start_block c)
  unfolding start_block
  start_piece =
      let l : 0 < length c.states = omega (arith, h.two) in
      piece_joined k _ _ (enter_piece 0 l) (visits_piece by_defaults (defaults_sound c h) 0 l)
