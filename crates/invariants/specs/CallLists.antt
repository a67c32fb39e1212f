-- Lists of calls on a widget (01, "One reaction"): a call with its arguments, made over a chart or over a chart handed over as a value; the
-- answers to a list of calls, and the state after them. Assumes nothing.
use Rattle.std.specs.Prelude.{ℕ, List, [], ◌∷◌, ℤ}
use Rattle.meaning.specs.Calls.{Outcome, discard, discard_of, post, post_of, run, run_of, start, start_of}
use Rattle.meaning.specs.Chart.{Chart}
use Rattle.meaning.specs.declared.State.{State}

-- a call with its arguments and the room lent for the trace
pub data Call : Type 0 where
  to_start to_run : ℕ → Call
  to_post : ℤ → ℤ → Call
  to_discard : Call

unfoldable pub make : Chart → Call → State → Outcome
make c (to_start n) u = start c u n
make c (to_run n) u = run c u n
make c (to_post e a) u = post c u e a
make c to_discard u = discard c u

unfoldable pub make_of : List ℤ → Call → State → Outcome
make_of v (to_start n) u = start_of v u n
make_of v (to_run n) u = run_of v u n
make_of v (to_post e a) u = post_of v u e a
make_of v to_discard u = discard_of v u

-- the answers to a list of calls, each from the state that the one before left
unfoldable pub answers : (Call → State → Outcome) → List Call → State → List ℕ
answers m [] u = []
answers m (x ∷ xs) u = (m x u).number ∷ answers m xs (m x u).after

-- and the state after them
unfoldable pub after_all : (Call → State → Outcome) → List Call → State → State
after_all m [] u = u
after_all m (x ∷ xs) u = after_all m xs (m x u).after
