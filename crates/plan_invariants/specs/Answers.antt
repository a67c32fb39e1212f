-- The numbers that each call over a well-formed plan may give (01, "Answer numbers"): 0 done, and else; 5 comes before them all where a
-- plan is not well formed. None has 14. Assumes nothing.
use Rattle.std.specs.Prelude.{ℕ, List, [], ◌∷◌}
use Rattle.invariants.specs.CallLists.{Call, to_discard, to_post, to_run, to_start}

-- "It tests neither 7 nor 6"; a send to a full queue, no room, a 33rd null step
abbrev pub START_ANSWERS : List ℕ
START_ANSWERS = 0 ∷ 9 ∷ 11 ∷ 12 ∷ []

-- "then 7, 6; then 8", and then as start
abbrev pub RUN_ANSWERS : List ℕ
RUN_ANSWERS = 0 ∷ 6 ∷ 7 ∷ 8 ∷ 9 ∷ 11 ∷ 12 ∷ []

-- "then 7, 6; .. 10 before 9"
abbrev pub POST_ANSWERS : List ℕ
POST_ANSWERS = 0 ∷ 6 ∷ 7 ∷ 9 ∷ 10 ∷ []

-- "then 7, 6; then 8"
abbrev pub DISCARD_ANSWERS : List ℕ
DISCARD_ANSWERS = 0 ∷ 6 ∷ 7 ∷ 8 ∷ []

-- of a replay: those of a post, and of a run that finds something waiting
abbrev pub REPLAY_ANSWERS : List ℕ
REPLAY_ANSWERS = 0 ∷ 6 ∷ 7 ∷ 9 ∷ 10 ∷ 11 ∷ 12 ∷ []

-- ---- the numbers that a call may give where the plan is well formed

unfoldable pub may_give : Call → List ℕ
may_give (to_start n) = START_ANSWERS
may_give (to_run n) = RUN_ANSWERS
may_give (to_post e a) = POST_ANSWERS
may_give to_discard = DISCARD_ANSWERS
