-- The plan of a chart that passes the rules (01, "The plan"): its numbers, whatever follows them, read back as the plan and are well
-- formed. First for a chart, then for a chart handed over as a value, then for what compiling leaves in a lent slice. Assumes nothing.
use mathlib.Core.Path.{◌≡◌, ap, refl, subst, sym}
use Prim.Native.Nat.{◌-◌, ◌<◌, ℕ}
use native.Mathlib.Omega.{arith}
use mathlib.Core.Bool.{Bool, cond, false, true}
use mathlib.Core.List.{List, [], ◌++◌, ◌∷◌, map}
use mathlib.Core.Option.{Option, none, some}
use lib.ListN.{length, length-append, replicate}
use lib.Dec.{ltb}
use lib.IntN.{pos, ℤ}
use Rattle.laws.proofs.Lists.{each_of}
use Rattle.laws.specs.Facts.{Each, none_left, one_more}
use Rattle.laws.proofs.Sound.{SoundChart, sound_chart}
use Rattle.laws.proofs.Value.{SizedChart, sized_chart, value_passes}
use Rattle.meaning.specs.Chart.{Chart, no_var}
use Rattle.meaning.specs.Compile.{block, code_of, compile, compile_of, compiled_into, head_order, heads_from}
use Rattle.meaning.specs.Compile.{plan_lent, plan_of, start_block}
use Rattle.meaning.specs.Lists.{concat_map, padded}
use Rattle.meaning.specs.Rules.{failing_rule, failing_rule_of, row_fits}
use Rattle.meaning.specs.Text.{Result, answer_of, done, refused}
use Rattle.meaning.specs.Tree.{var_row}
use Rattle.meaning.specs.Value.{chart_of}
use Rattle.meaning.specs.WellFormed.{plan_by, well_formed}
use Rattle.meaning.specs.declared.plan.Counts.{Counts}
use Rattle.plan_laws.proofs.Accepted.{fits_well_formed}
use Rattle.plan_laws.proofs.Counted.{code_bound}
use Rattle.plan_laws.proofs.Fits.{Fills, Fits, Piece, VarFits}
use Rattle.plan_laws.proofs.Heads.{blocks_joined, heads_fill, heads_fit, heads_lengths, heads_many}
use Rattle.plan_laws.proofs.Order.{order_each, order_many}
use Rattle.plan_laws.proofs.Pieces.{CountsOf, block_piece, start_piece}
use Rattle.plan_laws.proofs.ReadBack.{Sayable, counts, read_back}

-- ---- a chart that passes the rules

module _ (c : Chart) (h : SoundChart c) (z : SizedChart c) where
  k : Counts
  k = counts (plan_of c)

  same_counts : CountsOf c k
  unfolding k counts plan_of
  same_counts = record { states = refl; vars = refl; events = refl }

  pub plan_sayable : Sayable (plan_of c)
  unfolding plan_of
  plan_sayable = record {
    states = z.states;
    vars = z.vars;
    events = z.events;
    heads = omega (arith, heads_many c (length (start_block c)) (head_order c), order_many c, z.transitions);
    code = code_bound c h z;
  }

  vars_fit : Each VarFits c.vars
  unfolding row_fits var_row
  vars_fit = each_of VarFits no_var c.vars
      (λ v l. record { in_order = rw (h.rows v l).0 (h.rows v l).1; in_range = z.rows_range v l })

  blocks_pieces : (ts : List ℕ) → Each (λ t. t < length c.transitions) ts → Each (Piece k) (map (block c) ts)
  blocks_pieces [] none_left = none_left
  blocks_pieces (t ∷ ts) (one_more p ps) = one_more (block_piece c h z k same_counts t p) (blocks_pieces ts ps)

  pub plan_fits : Fits (plan_of c)
  unfolding k plan_of code_of concat_map
  plan_fits = record {
    two = h.two;
    vars = vars_fit;
    heads = heads_fit c h z k same_counts (length (start_block c)) (head_order c) (order_each c);
    fills = subst (λ n. Fills n (length (start_block c)) (heads_from c (length (start_block c)) (head_order c)))
        (sym (length-append (start_block c) (concat_map (block c) (head_order c)))) (heads_fill c (length (start_block c)) (head_order c));
    blocks = start_block c ∷ map (block c) (head_order c);
    code = ap (λ l. start_block c ++ l) (blocks_joined c (head_order c));
    lengths = ap (λ l. length (start_block c) ∷ l) (heads_lengths c (length (start_block c)) (head_order c));
    pieces = one_more (start_piece c h z k same_counts) (blocks_pieces (head_order c) (order_each c));
  }

module _ (c : Chart) (e : failing_rule c ≡ none) (z : SizedChart c) (rest : List ℤ) where
  pub compiled_read_back : plan_by (compile c ++ rest) ≡ plan_of c
  unfolding compile
  compiled_read_back = read_back (plan_of c) rest (plan_sayable c (sound_chart c e) z)

  pub compiled_well_formed : well_formed (compile c ++ rest) ≡ true
  unfolding compile
  compiled_well_formed = fits_well_formed (plan_of c) rest (plan_fits c (sound_chart c e) z) (plan_sayable c (sound_chart c e) z)

-- ---- a chart handed over as a value

module _ (v : List ℤ) (e : failing_rule_of v ≡ none) (rest : List ℤ) where
  pub value_read_back : plan_by (compile (chart_of v) ++ rest) ≡ plan_of (chart_of v)
  value_read_back = compiled_read_back (chart_of v) (value_passes v e).1 (sized_chart v (value_passes v e).0) rest

  pub value_well_formed : well_formed (compile (chart_of v) ++ rest) ≡ true
  value_well_formed = compiled_well_formed (chart_of v) (value_passes v e).1 (sized_chart v (value_passes v e).0) rest

-- ---- what compiling leaves in n lent numbers, where it is done

module _ (v : List ℤ) (n : ℕ) where
  -- what holds of the plan's numbers, whatever follows them, holds of the slice
  pub lent : (P : List ℤ → Type 0) → (failing_rule_of v ≡ none → (rest : List ℤ) → P (compile (chart_of v) ++ rest))
      → (answer_of (compile_of v n)).number ≡ 0 → P (plan_lent n (compile_of v n))
  unfolding compile_of compiled_into plan_lent padded
  lent P f = by_rule (failing_rule_of v) refl
    where
      plan : List ℤ
      plan = compile (chart_of v)

      placed : Bool → Result (List ℤ)
      placed b = cond b (refused 4 0) (done plan)

      by_room : failing_rule_of v ≡ none → (b : Bool) → (answer_of (placed b)).number ≡ 0 → P (plan_lent n (placed b))
      by_room q true e = absurd (omega arith)
      by_room q false e = f q (replicate (n - length plan) (pos 0))

      given : Option ℕ → Result (List ℤ)
      given o = elim o [ none ↦ compiled_into n plan | some r ↦ refused 3 r ]

      by_rule : (o : Option ℕ) → failing_rule_of v ≡ o → (answer_of (given o)).number ≡ 0 → P (plan_lent n (given o))
      by_rule none q e = by_room q (ltb n (length plan)) e
      by_rule (some r) q e = absurd (omega arith)

  pub lent_read_back : (answer_of (compile_of v n)).number ≡ 0 → plan_by (plan_lent n (compile_of v n)) ≡ plan_of (chart_of v)
  lent_read_back = lent (λ ns. plan_by ns ≡ plan_of (chart_of v)) (value_read_back v)

  pub lent_well_formed : (answer_of (compile_of v n)).number ≡ 0 → well_formed (plan_lent n (compile_of v n)) ≡ true
  lent_well_formed = lent (λ ns. well_formed ns ≡ true) (value_well_formed v)

  -- and the chart passes the rules
  pub lent_ruled : (answer_of (compile_of v n)).number ≡ 0 → failing_rule_of v ≡ none
  lent_ruled = lent (λ ns. failing_rule_of v ≡ none) (λ e rest. e)
