-- An owner's actions and the entries of a block (01, "default actions where due, IN, entry actions") do what the chart's do, from any
-- context. Assumes nothing.
use mathlib.Core.Path.{◌∙◌, ◌≡◌, refl}
use Prim.Native.Nat.{ℕ, suc, zero}
use mathlib.Core.List.{List}
use lib.IntN.{ℤ}
use Rattle.agreement.proofs.Running.{Does, append_does, block_does, code_does, cons_does, each_does}
use Rattle.laws.proofs.Steps.{each_map}
use Rattle.meaning.specs.Chart.{Chart}
use Rattle.meaning.specs.Compile.{code_acts, enter_code, visit_code}
use Rattle.meaning.specs.Effects.{acts_of, enter, mark_entered, perform, perform_all}
use Rattle.meaning.specs.Entry.{Visit, by_default, plain, visit}
use Rattle.meaning.specs.Lists.{concat_map}
use Rattle.meaning.specs.Machine.{exec, exec_at, exec_now, passing, run_block, run_code}
use Rattle.meaning.specs.Steps.{each}
use Rattle.meaning.specs.Widget.{Ctx}
use Rattle.meaning.specs.declared.chart.Owner.{Owner}
use Rattle.meaning.specs.declared.chart.Owner.TheVariants.{DefaultOf as default_of, EntryOf as entry_of}
use Rattle.meaning.specs.declared.plan.Instr.TheVariants.{Does as does, In as go_in}

module _ (c : Chart) (a : ℤ) where
  pub acts_do : (o : Owner) → Does (run_code c.vars a (code_acts c o)) (perform_all c a o)
  unfolding run_code code_acts perform_all exec exec_at exec_now passing
  acts_do o k = each_map (exec c.vars a) does (acts_of c o) (passing 0 k)
      ∙ each_does (λ x. exec c.vars a (does x)) (perform c.vars a) (λ x j. refl) (acts_of c o) k

  pub enter_does : (s : ℕ) → Does (run_code c.vars a (enter_code c s)) (enter c a s)
  unfolding enter_code enter exec exec_at exec_now passing
  enter_does s = cons_does c.vars a (go_in s) (code_acts c (entry_of s)) (mark_entered s) (perform_all c a (entry_of s)) (λ k. refl)
      (acts_do (entry_of s))

  pub visit_does : (v : Visit) → Does (run_code c.vars a (visit_code c v)) (visit c a v)
  unfolding visit_code visit
  visit_does (plain s) = enter_does s
  visit_does (by_default p s) = append_does c.vars a (code_acts c (default_of p)) (enter_code c s)
      (perform_all c a (default_of p)) (enter c a s) (acts_do (default_of p)) (enter_does s)

  -- an itinerary
  pub visits_do : (vs : List Visit) → Does (run_code c.vars a (concat_map (visit_code c) vs)) (each (visit c a) vs)
  visits_do vs = code_does c.vars a (visit_code c) (visit c a) visit_does vs

  -- as blocks
  pub acts_agree : (o : Owner) (k : Ctx) → run_block c.vars a (code_acts c o) k ≡ perform_all c a o k
  acts_agree o k = block_does c.vars a (code_acts c o) (perform_all c a o) k (acts_do o k)

  pub visits_agree : (vs : List Visit) (k : Ctx) → run_block c.vars a (concat_map (visit_code c) vs) k ≡ each (visit c a) vs k
  visits_agree vs k = block_does c.vars a (concat_map (visit_code c) vs) (each (visit c a) vs) k (visits_do vs k)
