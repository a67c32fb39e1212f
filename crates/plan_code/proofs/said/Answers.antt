-- `said` takes a number's bits for a code: below 0 neither they nor what it names are one. Assumes nothing.
use Rattle.std.proofs.Common.{subst, ℕ, ◌<◌, ℤ, pos, negsuc, rules, arith}
use Rattle.std.specs.Int.{cast_unsigned}
use mir.Syntax.{w32}
use mir.Val.{SFits}
use Rattle.numbers.specs.Reference.{ref}
use Rattle.numbers.proofs.Laws.{back32}
use Rattle.plan_rows.specs.declared.code.Code.{Code}
use Rattle.plan_rows.specs.declared.code.Code.TheVariants.{In, Out, SkipOut, SkipEmpty, SkipFull, SkipNot, Set, Add, Take, Send, Tell}
use Rattle.plan_rows.specs.Codes.{Says}
use Rattle.plan_code.proofs.said.Goals as goal

-- numbers past the codes say the same
past : (c : Code) {n m : ℕ} → 10 < n → 10 < m → Says c n → Says c m
past In l k e = absurd (omega (arith, e, l))
past Out l k e = absurd (omega (arith, e, l))
past SkipOut l k e = absurd (omega (arith, e, l))
past SkipEmpty l k e = absurd (omega (arith, e, l))
past SkipFull l k e = absurd (omega (arith, e, l))
past SkipNot l k e = absurd (omega (arith, e, l))
past Set l k e = absurd (omega (arith, e, l))
past Add l k e = absurd (omega (arith, e, l))
past Take l k e = absurd (omega (arith, e, l))
past Send l k e = absurd (omega (arith, e, l))
past Tell l k e = (
  λ z. omega (arith, z, k),
  λ z. omega (arith, z, k),
  λ z. omega (arith, z, k),
  λ z. omega (arith, z, k),
  λ z. omega (arith, z, k),
  λ z. omega (arith, z, k),
  λ z. omega (arith, z, k),
  λ z. omega (arith, z, k),
  λ z. omega (arith, z, k),
  λ z. omega (arith, z, k),
)

by_bits : (c : Code) (x : ℤ) → SFits w32 x → Says c (cast_unsigned w32 x) → Says c (ref x)
by_bits c (pos n) f s = s
by_bits c (negsuc n) f s = past c (omega arith) (omega arith) s

pub returns : goal.returns
returns c =
    let f : SFits w32 c.read.result = search rules in
    subst (λ z. Says c.code_by.result (ref z)) c.read.ensures
    (by_bits _ c.read.result f
    (subst (Says c.code_by.result) (rw (back32 c.read.result c.read.type_inv) at c.cast_unsigned.ensures) c.code_by.ensures))
