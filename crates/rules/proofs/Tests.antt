-- A definition that is one test and then another, against code that returns at the first test that fails: what each return has to
-- show. r is what the code's call gave, p the test of the definition. Assumes nothing.
use mathlib.Core.Path.{◌≡◌, sym, ◌∙◌}
use mathlib.Core.Bool.{Bool, true, false, not, ◌&&◌, ◌||◌}
use borrow.Author.Tests.{not-true, not-false}

-- `if !call { .. }`: the test that the call stands for
pub refuted : {r p : Bool} → r ≡ p → not r ≡ true → p ≡ false
refuted {r} e t = sym e ∙ not-true r t

pub held : {r p : Bool} → r ≡ p → not r ≡ false → p ≡ true
held {r} e t = sym e ∙ not-false r t

-- the first test holds, and the rest is what is returned
pub on : {p q s : Bool} → p ≡ true → s ≡ q → s ≡ p && q
on e g = rw e g

-- `call && rest`: the call holds, and the rest is what is returned; or the call fails, and is what is returned
pub both : {r p q s : Bool} → r ≡ p → r ≡ true → s ≡ q → s ≡ p && q
both e t g = on (sym e ∙ t) g

pub fails : {r p : Bool} (q : Bool) → r ≡ p → r ≡ false → r ≡ p && q
fails q e f = f ∙ rw (sym e ∙ f)

-- `call || rest`: the call fails, and the rest is what is returned; or the call holds, and is what is returned
pub either : {r p q s : Bool} → r ≡ p → r ≡ false → s ≡ q → s ≡ p || q
either e f g = rw (sym e ∙ f, g)

pub passes : {r p : Bool} (q : Bool) → r ≡ p → r ≡ true → r ≡ p || q
passes q e t = t ∙ rw (sym e ∙ t)
