-- The loop over the chosen: what is still owed after j of them, and that the widget stays ready. Assumes nothing.
use Rattle.std.specs.Prelude.{Ok, Err}
use mathlib.Core.Path.{◌≡◌, sym, ap, ◌∙◌, subst}
use Prim.Native.Nat.{ℕ, ◌+◌, ◌≤◌, ◌<◌}
use native.Mathlib.Omega.{arith}
use mathlib.Core.List.{List}
use lib.ListN.{length, get_or, drop, take, length-map}
use lib.IntN.{ℤ}
use Rattle.meaning.specs.Steps.{◌then◌, each}
use Rattle.meaning.specs.Chart.{Chart}
use Rattle.meaning.specs.Reaction.{fire}
use Rattle.meaning.specs.Rules.{Ruled}
use Rattle.meaning.specs.Tree.{trans_row}
use Rattle.meaning.specs.Value.{chart_of}
use Rattle.meaning.specs.declared.chart.Target.{Target}
use Rattle.meaning.specs.declared.chart.Target.TheVariants.{To as to, History as history, InPlace as in_place}
use Rattle.laws.specs.Facts.{TargetFacts}
use Rattle.laws.proofs.Lists.{each_at}
use Rattle.laws.proofs.Scope.{scope_facts}
use Rattle.laws.proofs.Sound.{SoundChart}
use Rattle.sizes.specs.Sizes.{STATES}
use Rattle.tree.specs.Aims.{aim_by, top_of, Found}
use Rattle.tree.proofs.On.{end_within}
use Rattle.tree.proofs.Passing.{sound}
use Rattle.meaning.specs.declared.State.{State}
use Rattle.meaning.specs.declared.answers.Refusal.{Refusal}
use Rattle.widget.specs.View.{ctx, Did, Owes}
use Rattle.widget.proofs.Going as going
use Rattle.invariants.proofs.GoodReaction.{fire_good}
use Rattle.choice.specs.Choice.{free, picked}
use Rattle.choice.specs.declared.Pick.{Pick}
use Rattle.laws.proofs.Value.{get_d_map}
use lib.Seq.{get_or-take}
use Rattle.std.proofs.lemmas.List.{length-take}
use Rattle.reaction.specs.Ready.{Ready, Fires}
use Rattle.laws.proofs.Value.{SizedChart}
use Rattle.reaction.proofs.Going.{sized, ready_next}

-- how many fire, and which is the j-th
module _ (c : Chart) (count : ℕ) (picks : List Pick) (f : Fires c count picks) where
  pub fires_long : length (picked count picks) ≡ length (take count picks)
  fires_long = length-map (take count picks) (λ p. p.transition)

  module _ (j : ℕ) (l : j < length (take count picks)) {t : ℕ} (e : t ≡ (get_or (take count picks) j free).transition) where
    pub fires_at : get_or (picked count picks) j 0 ≡ t
    fires_at = get_d_map (λ p. p.transition) (take count picks) j 0 free l ∙ sym e

    pub fires_named : t < length c.transitions
    fires_named = subst (λ n. n < length c.transitions) fires_at (each_at
        (λ n. n < length c.transitions) (picked count picks) f.named j (omega (arith, fires_long)) 0)

    pub fires_carried : {top end : ℕ} → top ≡ (get_or (take count picks) j free).top → end ≡ (get_or (take count picks) j free).end
        → Found c t top end
    fires_carried p q =
        let k : j < count = omega (arith, length-take count picks) in
        rw (e, p, q) (subst (λ x. Found c x.transition x.top x.end) (sym (get_or-take count picks j free k)) (f.carried j k))

-- what is carried beside a transition names states of the chart
top_inside : (c : Chart) → SoundChart c → (s : ℕ) → s < length c.states → (g : Target) → TargetFacts c s g
    → top_of c s (aim_by g) < length c.states
top_inside c h s l (to d) f = (scope_facts c h s d f.2 f.1).inside
top_inside c h s l (history b) f = (scope_facts c h s b f.3 f.1).inside
top_inside c h s l in_place f = l

pub carried_inside : (v : List ℤ) → Ruled v → (t : ℕ) → t < length (chart_of v).transitions → {top end : ℕ} → Found (chart_of v) t top end
    → (top < STATES) × (end ≤ STATES)
carried_inside v r t l {top} h =
    let f = (sound v r).transitions t l in
    let row = trans_row (chart_of v) t in
    let i : top < length (chart_of v).states =
    omega (arith, h.is, top_inside (chart_of v) (sound v r) row.source f.source row.target f.target) in
    let m = (sized v r).states in
    (omega arith, omega (arith, h.ends, end_within (chart_of v) (sound v r).ordered top i))

pub record Firing (c : Chart) (arg : ℤ) (ps : List ℕ) (u : State) (t : List ℤ) (at j : ℕ) (u₁ : State) (t₁ : List ℤ) (at₁ : ℕ)
    : Type 0 where
  pub ready : Ready c u₁ t₁ at₁
  pub owes : Owes (each (fire c arg) ps) u t at (each (fire c arg) (drop j ps)) u₁ t₁ at₁

module _ {c : Chart} {arg : ℤ} {ps : List ℕ} {u : State} {t : List ℤ} {at : ℕ} where
  pub firing_begin : Ready c u t at → Firing c arg ps u t at 0 u t at
  firing_begin h = record { ready = h; owes = going.owes_all h.fits }

  module _ {j : ℕ} {u₁ : State} {t₁ : List ℤ} {at₁ : ℕ} (h : Firing c arg ps u t at j u₁ t₁ at₁) where
    pub firing_end : length ps ≤ j → Did (each (fire c arg) ps) u t at (Ok at₁) u₁ t₁
    firing_end l = going.owes_none h.owes (going.each_end (fire c arg) ps j _ l)

    module _ (x : ℕ) (l : j < length ps) (e : get_or ps j 0 ≡ x) where
      due : Owes (each (fire c arg) ps) u t at (fire c arg x then each (fire c arg) (drop (j + 1) ps))
          u₁ t₁ at₁
      due = going.owes_as (fire c arg x then each (fire c arg) (drop (j + 1) ps)) h.owes
          (sym (going.each_at (fire c arg) ps j 0 _ l
          ∙ ap (λ y. (fire c arg y then each (fire c arg) (drop (j + 1) ps)) (ctx u₁ t₁ at₁)) e))

      pub firing_stop : {r : Refusal} {u₂ : State} {t₂ : List ℤ} → Did (fire c arg x) u₁ t₁ at₁ (Err r) u₂ t₂
          → Did (each (fire c arg) ps) u t at (Err r) u₂ t₂
      firing_stop d = going.owes_stop (each (fire c arg) (drop (j + 1) ps)) due d

      pub firing_on : SoundChart c → SizedChart c → x < length c.transitions → {n : ℕ} {u₂ : State} {t₂ : List ℤ}
          → Did (fire c arg x) u₁ t₁ at₁ (Ok n) u₂ t₂ → Firing c arg ps u t at (j + 1) u₂ t₂ n
      firing_on h₁ z n d = record {
        ready = ready_next c (fire_good c h₁ z arg x n) d h.ready;
        owes = going.owes_on (each (fire c arg) (drop (j + 1) ps)) due d;
      }
