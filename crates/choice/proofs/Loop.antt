-- The chooser's loop over the transitions of one source, as laws over plain variables: what is known of a row, and the ways of a turn.
-- Assumes nothing.
use mathlib.Core.Path.{◌≡◌, refl, sym, ap, ◌∙◌, subst}
use Prim.Native.Nat.{ℕ, ◌+◌, ◌≤◌, ◌<◌}
use native.Mathlib.Omega.{arith}
use mathlib.Core.Bool.{Bool, true, false}
use mathlib.Core.List.{List, [], ◌∷◌, ◌++◌, map}
use native.Mathlib.Numerals.{add-one}
use lib.ListN.{length, get_or, take, replicate, length-replicate, length-set, length-map}
use lib.Seq.{length-take-le, get_or-take, take-suc-set, get_or-set_same, get_or-set_other}
use lib.IntN.{ℤ}
use Rattle.sizes.specs.Sizes.{STATES, VARIABLES, TRANSITIONS}
use Rattle.meaning.specs.declared.State.{State}
use Rattle.meaning.specs.declared.chart.Guard.{Guard}
use Rattle.meaning.specs.declared.chart.Guard.TheVariants.{Always as always, Compares as compares}
use Rattle.meaning.specs.declared.chart.TransRow.{TransRow}
use Rattle.meaning.specs.Chart.{Chart}
use Rattle.meaning.specs.Tree.{trans_row, span, span_of}
use Rattle.meaning.specs.Value.{chart_of}
use Rattle.meaning.specs.Reaction.{enabled_by, enabled, meets}
use mathlib.Core.Logic.{⊎_elim}
use Rattle.laws.proofs.Lists.{le_or_lt}
use Rattle.laws.proofs.Rules.{GuardFacts, TransitionFacts}
use Rattle.laws.proofs.Value.{sized_chart, get_d_map}
use Rattle.meaning.specs.Rules.{Ruled}
use Rattle.tree.proofs.Passing.{sound, rules_passed}
use Rattle.choice.specs.declared.Span.{Span}
use Rattle.choice.specs.declared.Pick.{Pick}
use Rattle.choice.specs.Span.{Spans, Spanned, Aims, Goes}
use Rattle.tree.specs.Aims.{aim_by, top_of, Found}
use Rattle.choice.specs.Choice.{Reads, free, picked, noted, Carried}
use Rattle.choice.proofs.Meets.{Gone, gone_none, gone_more, clash_hit, clash_none}
use Rattle.choice.proofs.Thin.{gone_after, gone_snoc}

reads_by : (c : Chart) (g : Guard) → length c.vars ≤ VARIABLES → GuardFacts c g → Reads g
reads_by c always l f = tt
reads_by c (compares v s x) l f = omega arith

module _ (v : List ℤ) (h : Ruled v) (t : ℕ) (row : TransRow) (e : row ≡ trans_row (chart_of v) t)
    (l : t < length (chart_of v).transitions) where
  facts : TransitionFacts (chart_of v) row
  facts = rw e ((sound v h).transitions t l)

  pub row_fits : (row.source < STATES) × Reads row.guard
  row_fits =
      let k = sized_chart v (rules_passed v h).0 in
      (omega (arith, facts.source, k.states), reads_by (chart_of v) row.guard k.vars facts.guard)

  pub row_aims : (s : ℕ) → row.source ≡ s → Aims (chart_of v) s row.target
  row_aims s q = subst (λ n. Aims (chart_of v) n row.target) q (facts.source, facts.target)

  pub row_spans : (s : ℕ) (w : Span) → row.source ≡ s → Spans (span_of (chart_of v) s row.target) w → Spans (span (chart_of v) t) w
  unfolding span
  row_spans s w q f = rw (← e, q) f

  pub row_found : (s : ℕ) (w : Span) → row.source ≡ s → Spanned (chart_of v) s row.target w → Found (chart_of v) t w.top w.end
  row_found s w q f = record {
    is = f.top ∙ ap (λ n. top_of (chart_of v) n (aim_by row.target)) (sym q)
        ∙ ap (λ x. top_of (chart_of v) x.source (aim_by x.target)) e;
    ends = f.below;
  }

  pub row_enabled : (ev : ℕ) (u : State) (b : Bool) → b ≡ enabled_by row ev u → enabled (chart_of v) ev u t ≡ b
  unfolding enabled
  row_enabled ev u b q = rw (← e) (sym q)

  pub row_source : (s : ℕ) → row.source ≡ s → (trans_row (chart_of v) t).source ≡ s
  row_source s q = rw (← e) q

pub source_small : (v : List ℤ) (h : Ruled v) (t n : ℕ) → n ≡ (trans_row (chart_of v) t).source → t < length (chart_of v).transitions
    → n < STATES
source_small v h t n e l = omega (arith, e, (row_fits v h t (trans_row (chart_of v) t) refl l).0)

-- ---- all numbers up to one more

pub up_to : (P : ℕ → Type 0) (j : ℕ) → ((i : ℕ) → i < j → P i) → P j → (i : ℕ) → i < j + 1 → P i
up_to P j h p i l = ⊎_elim (λ q. let z : j ≡ i = omega arith in subst P z p) (h i) (le_or_lt j i)

-- ---- the picks so far, with the states that are gone

pub record Held (c : Chart) (picks : List Pick) (count : ℕ) (gone : List Bool) : Type 0 where
  pub few : count ≤ TRANSITIONS
  pub size : length picks ≡ TRANSITIONS
  pub carried : Carried c count picks
  pub marks : Gone (gone_after c [] (picked count picks)) gone
  pub long : length gone ≡ STATES

pub held_none : (c : Chart) (picks : List Pick) → length picks ≡ TRANSITIONS → Held c picks 0 (replicate STATES false)
unfolding gone_after
held_none c picks l = record {
  few = omega arith;
  size = l;
  carried = λ j p. absurd (omega arith);
  marks = gone_none;
  long = length-replicate STATES false;
}

-- the numbers of a list of picks, with one more
map_snoc : (ps : List Pick) (p : Pick) → map (λ x. x.transition) (ps ++ (p ∷ [])) ≡ map (λ x. x.transition) ps ++ (p.transition ∷ [])
map_snoc [] p = refl
map_snoc (x ∷ xs) p = ap (λ ts. x.transition ∷ ts) (map_snoc xs p)

abbrev found_out : Chart → Pick → Type 0
found_out c p = Found c p.transition p.top p.end

pub picked_long : (picks : List Pick) (count : ℕ) → count ≤ length picks → length (picked count picks) ≡ count
picked_long picks count l = length-map (take count picks) (λ p. p.transition) ∙ length-take-le count picks l

pub picked_at : (picks : List Pick) (count j : ℕ) → count ≤ length picks → j < count
    → get_or (picked count picks) j 0 ≡ (get_or picks j free).transition
picked_at picks count j l q =
    get_d_map (λ p. p.transition) (take count picks) j 0 free (omega (arith, length-take-le count picks l))
    ∙ ap (λ p. p.transition) (get_or-take count picks j free q)

module _ (picks : List Pick) (count t : ℕ) (r : Span) (l : count < TRANSITIONS) (n : length picks ≡ TRANSITIONS) where
  pub one_more : picked (count + 1) (noted picks count t r) ≡ picked count picks ++ (t ∷ [])
  one_more =
      rw (add-one count, take-suc-set picks count record { transition = t; top = r.top; end = r.end } (omega (arith, n)))
      (map_snoc (take count picks) record { transition = t; top = r.top; end = r.end })

  noted_carried : (c : Chart) → Carried c count picks → Found c t r.top r.end → Carried c (count + 1) (noted picks count t r)
  noted_carried c h f = up_to (λ j. found_out c (get_or (noted picks count t r) j free)) count
      (λ j p. subst (found_out c)
      (sym (get_or-set_other picks count j record { transition = t; top = r.top; end = r.end } free (λ e. omega arith))) (h j p))
      (subst (found_out c)
      (sym (get_or-set_same picks count record { transition = t; top = r.top; end = r.end } free (omega (arith, n)))) f)

pub held_more : (c : Chart) (picks : List Pick) (count : ℕ) (gone new : List Bool) (t : ℕ) (r : Span) → Held c picks count gone
    → count < TRANSITIONS → Spans (span c t) r → Found c t r.top r.end → Goes r gone new
    → Held c (noted picks count t r) (count + 1) new
held_more c picks count gone new t r h l f o g = record {
  few = omega arith;
  size = length-set picks count _ ∙ h.size;
  carried = noted_carried picks count t r l h.size c h.carried o;
  marks = subst (λ ps. Gone (gone_after c [] ps) new) (sym (one_more picks count t r l h.size))
      (subst (λ ps. Gone ps new) (sym (gone_snoc c [] (picked count picks) t)) (gone_more (span c t) _ r gone new f g h.marks));
  long = g.long ∙ h.long;
}

-- a span clashes where one of its states is gone
module _ {c : Chart} {picks : List Pick} {count : ℕ} {gone : List Bool} (h : Held c picks count gone) (t : ℕ) {r : Span}
    (f : Spans (span c t) r) (l : r.end ≤ STATES) where
  pub held_clash : (x : ℕ) → r.first ≤ x → x < r.end → get_or gone x false ≡ true → meets (span c t)
      (gone_after c [] (picked count picks)) ≡ true
  held_clash x p q e = clash_hit (span c t) _ r f x p q (sym (h.marks x (omega arith)) ∙ e)

  pub held_apart : ((x : ℕ) → r.first ≤ x → x < r.end → get_or gone x false ≡ false) → meets (span c t)
      (gone_after c [] (picked count picks)) ≡ false
  held_apart e = clash_none (span c t) _ r f (λ x p q. sym (h.marks x (omega arith)) ∙ e x p q)
