-- Room for every plan (answer 4, "the plan is longer than the slice lent"): so many lent numbers that no chart that passes the rules
-- is refused for room. Assumes nothing.
use mathlib.Core.Path.{◌≡◌}
use Prim.Native.Nat.{◌*◌, ◌+◌, ◌≤◌, ℕ}
use native.Mathlib.Nat.{le_trans}
use native.Mathlib.Omega.{arith}
use mathlib.Core.List.{List}
use mathlib.Core.Option.{Option, none, some}
use lib.ListN.{length}
use lib.IntN.{ℤ}
use borrow.Author.Tests.{le-ltb}
use Rattle.laws.proofs.Sound.{SoundChart, sound_chart}
use Rattle.laws.proofs.Value.{SizedChart, sized_chart, value_passes}
use Rattle.meaning.specs.Chart.{Chart}
use Rattle.meaning.specs.Compile.{compile, compile_of, compiled_into, plan_of}
use Rattle.meaning.specs.Plan.{Plan, plan_numbers}
use Rattle.meaning.specs.Rules.{failing_rule_of}
use Rattle.meaning.specs.Text.{Result, answer_of, done, refused}
use Rattle.meaning.specs.Value.{VAR_ROW, chart_of}
use Rattle.meaning.specs.WellFormed.{HEAD_ROW, INSTR_ROW, SIX, code_at, heads_at, plan_end}
use Rattle.plan_laws.proofs.Accepted.{plan_long}
use Rattle.plan_laws.proofs.Compiled.{plan_sayable}
use Rattle.plan_laws.proofs.Counted.{code_lines, lines_most}
use Rattle.plan_laws.proofs.ReadBack.{counts}
use Rattle.sizes.specs.Sizes.{ACTIONS, STATES, TRANSITIONS, VARIABLES}

-- by the most variables, heads and instructions
abbrev pub numbers_most : ℕ → ℕ → ℕ → ℕ
numbers_most vars heads lines = SIX + vars * VAR_ROW + heads * HEAD_ROW + lines * INSTR_ROW

-- the room that every plan has enough with
abbrev pub ROOM : ℕ
ROOM = numbers_most VARIABLES TRANSITIONS (lines_most STATES TRANSITIONS ACTIONS)

plan_most : (p : Plan) (vars heads lines : ℕ) → length p.vars ≤ vars → length p.heads ≤ heads → length p.code ≤ lines
    → length (plan_numbers p) ≤ numbers_most vars heads lines
unfolding plan_end code_at heads_at counts
plan_most p vars heads lines v h l = omega (arith, plan_long p)

pub compiled_most : (c : Chart) → SoundChart c → SizedChart c → length (compile c) ≤ ROOM
unfolding compile plan_of
compiled_most c h z = plan_most (plan_of c) VARIABLES TRANSITIONS (lines_most STATES TRANSITIONS ACTIONS)
    z.vars (plan_sayable c h z).heads (code_lines c h STATES TRANSITIONS ACTIONS z.states z.transitions z.actions)

-- with that room, a value that passes the rules is compiled
pub room_suffices : (v : List ℤ) (n : ℕ) → failing_rule_of v ≡ none → ROOM ≤ n → (answer_of (compile_of v n)).number ≡ 0
unfolding compile_of compiled_into
room_suffices v n e l = by_rule (failing_rule_of v) e
  where
    plan : List ℤ
    plan = compile (chart_of v)

    given : Option ℕ → Result (List ℤ)
    given o = elim o [ none ↦ compiled_into n plan | some r ↦ refused 3 r ]

    fits : length plan ≤ n
    fits = le_trans (compiled_most (chart_of v) (sound_chart (chart_of v) (value_passes v e).1) (sized_chart v (value_passes v e).0)) l

    by_rule : (o : Option ℕ) → o ≡ none → (answer_of (given o)).number ≡ 0
    by_rule none q = rw (le-ltb n (length plan) fits)
    by_rule (some r) q = let z : ◌≡◌ {A = ℕ} 0 1 = cc in absurd (omega arith)
