-- Steps that go on or refuse: the few words in which the reaction and the plan machine are both written.
-- In the order: results, one step after another, a step under a test, a step for each of a list. Assumes nothing.
use Rattle.std.specs.Prelude.{ℕ, zero, suc, Bool, true, false, List, [], ◌∷◌}

-- what a step gives: it is done, or refused with an answer number of 01
pub data Res (A : Type 0) : Type 0 where
  ok : A → Res A
  refuse : ℕ → Res A

abbrev pub Step : Type 0 → Type 0
Step S = S → Res S

unfoldable pub bind : {A B : Type 0} → Res A → (A → Res B) → Res B
bind (ok a) f = f a
bind (refuse n) f = refuse n

-- one step and then another; "the first one met is given"
infixr 40 ◌then◌
unfoldable pub ◌then◌ : {S : Type 0} → Step S → Step S → Step S
unfolding bind
◌then◌ f g s = bind (f s) g

unfoldable pub skip : {S : Type 0} → Step S
skip s = ok s

unfoldable pub when : {S : Type 0} → Bool → Step S → Step S
when true f s = f s
when false f s = ok s

-- goes on only where the test is true, else the answer is n
unfoldable pub require : {S : Type 0} → ℕ → Bool → Step S
require n true s = ok s
require n false s = refuse n

-- a step that is chosen by the state it starts from
unfoldable pub look : {S : Type 0} → (S → Step S) → Step S
look f s = f s s

-- a step for each of a list, in its order
unfoldable pub each : {A S : Type 0} → (A → Step S) → List A → Step S
unfolding bind
each f [] s = ok s
each f (x ∷ xs) s = bind (f x s) (λ t. each f xs t)

-- everything above, opened: for statements that compute
unfoldable pub steps_open : ℕ
unfolding bind ◌then◌ skip when require look each
steps_open = 0
