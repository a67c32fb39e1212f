-- The exits of a block (01, "A block": SKIPOUT s k+1, OUT s, the actions) leave the active states of the span, from any context.
-- Assumes nothing.
use mathlib.Core.Path.{◌≡◌, refl}
use Prim.Native.Nat.{ℕ}
use mathlib.Core.List.{List, reverse}
use lib.IntN.{ℤ}
use Rattle.agreement.proofs.Entered.{acts_do}
use Rattle.agreement.proofs.Running.{Does, block_does, code_does, cons_does, test_does}
use Rattle.meaning.specs.Chart.{Chart}
use Rattle.meaning.specs.Compile.{code_acts, exit_code, exits_code}
use Rattle.meaning.specs.Effects.{leave, mark_left, o_parent, perform_all}
use Rattle.meaning.specs.Machine.{exec, exec_at, exec_now, passing, run_block, run_code}
use Rattle.meaning.specs.Reaction.{leave_active, leave_all}
use Rattle.meaning.specs.Widget.{Ctx, is_active}
use Rattle.meaning.specs.declared.chart.Owner.TheVariants.{ExitOf as exit_of}
use Rattle.meaning.specs.declared.plan.Instr.TheVariants.{Out as go_out}

module _ (c : Chart) (a : ℤ) where
  pub exit_does : (s : ℕ) → Does (run_code c.vars a (exit_code c s)) (leave_active c a s)
  unfolding exit_code leave_active leave exec exec_at exec_now passing
  exit_does s = test_does c.vars a _ _ (λ k. is_active k.state s) (leave c a s) (λ k. refl)
      (cons_does c.vars a (go_out s (o_parent c s)) (code_acts c (exit_of s)) (mark_left (o_parent c s) s)
      (perform_all c a (exit_of s)) (λ k. refl) (acts_do c a (exit_of s)))

  pub exits_do : (ss : List ℕ) → Does (run_code c.vars a (exits_code c ss)) (leave_all c a ss)
  unfolding exits_code leave_all
  exits_do ss = code_does c.vars a (exit_code c) (leave_active c a) exit_does (reverse ss)

  -- as a block: the states are left from any context
  pub exits_agree : (ss : List ℕ) (k : Ctx) → run_block c.vars a (exits_code c ss) k ≡ leave_all c a ss k
  exits_agree ss k = block_does c.vars a (exits_code c ss) (leave_all c a ss) k (exits_do ss k)
