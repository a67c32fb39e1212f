-- What a head's sign and an instruction's code say, number by number: code that goes by cases on the number meets the definitions, which
-- test one number after the other. Assumes nothing.
use Rattle.std.specs.Prelude.{Option, None, get_or}
use Prim.Native.Nat.{ℕ, zero, suc, ◌<◌}
use mathlib.Core.Path.{◌≡◌, refl, ap}
use mathlib.Core.Bool.{false}
use native.Mathlib.Omega.{arith}
use borrow.Author.Tests.{ne_eqb}
use lib.IntN.{ℤ, pos, negsuc}
use Rattle.numbers.specs.Equal.{eq_z}
use Rattle.numbers.specs.Reference.{ref, NOWHERE}
use Rattle.numbers.specs.Place.{place_of}
use Rattle.meaning.specs.declared.chart.Sign.TheVariants.{Equal as equal, Less as less, More as more}
use Rattle.meaning.specs.declared.chart.Guard.TheVariants.{Always as always, Compares as compares}
use Rattle.meaning.specs.declared.chart.Act.TheVariants.{SetTo as set_to, AddTo as add_to, TakeTo as take_to, Send as send, Tell as tell}
use Rattle.meaning.specs.declared.plan.Instr.TheVariants.{In as go_in, Out as go_out, SkipOut as skip_out, SkipEmpty as skip_empty}
use Rattle.meaning.specs.declared.plan.Instr.TheVariants.{SkipFull as skip_full, SkipNot as skip_not, Does as does}
use Rattle.meaning.specs.WellFormed.{head_guard_by, instr_of, instr_act_by}
use Rattle.plan_rows.specs.Codes.{CODES}

-- the number that names n, and one that does not
pub names : (z : ℤ) (n : ℕ) → n < NOWHERE → ref z ≡ n → z ≡ pos n
names (pos a) n h e = ap pos e
names (negsuc a) n h e = absurd (omega arith)

pub names_other : (z : ℤ) (n : ℕ) → (ref z ≡ n → ⊥) → eq_z z (pos n) ≡ false
names_other (pos a) n h = ne_eqb a n h
names_other (negsuc a) n h = refl

-- ---- the sign of a guard

module _ (v g x : ℤ) {u : ℕ} {c : ℤ} where
  pub equal_said : ref g ≡ 1 → u ≡ ref v → c ≡ x → compares u equal c ≡ head_guard_by v g x
  unfolding head_guard_by
  equal_said e p q = rw (names g 1 (omega arith) e, p, q)

  pub less_said : ref g ≡ 2 → u ≡ ref v → c ≡ x → compares u less c ≡ head_guard_by v g x
  unfolding head_guard_by
  less_said e p q = rw (names g 2 (omega arith) e, p, q)

  pub more_said : ref g ≡ 3 → u ≡ ref v → c ≡ x → compares u more c ≡ head_guard_by v g x
  unfolding head_guard_by
  more_said e p q = rw (names g 3 (omega arith) e, p, q)

pub always_said : (v g x : ℤ) → (ref g ≡ 1 → ⊥) → (ref g ≡ 2 → ⊥) → (ref g ≡ 3 → ⊥) → always ≡ head_guard_by v g x
unfolding head_guard_by
always_said v g x n₁ n₂ n₃ = rw (names_other g 1 n₁, names_other g 2 n₂, names_other g 3 n₃)

-- ---- the code of an instruction

module _ (k x y z : ℤ) {s : ℕ} where
  pub in_said : ref k ≡ 1 → s ≡ ref x → go_in s ≡ instr_of k x y z
  unfolding instr_of
  in_said e f = rw (names k 1 (omega arith) e, f)

  pub out_said : {p : Option ℕ} → ref k ≡ 2 → s ≡ ref x → p ≡ place_of y → go_out s p ≡ instr_of k x y z
  unfolding instr_of
  out_said e f g = rw (names k 2 (omega arith) e, f, g)

  pub skip_out_said : {n : ℕ} → ref k ≡ 3 → s ≡ ref x → n ≡ ref y → skip_out s n ≡ instr_of k x y z
  unfolding instr_of
  skip_out_said e f g = rw (names k 3 (omega arith) e, f, g)

  pub skip_empty_said : {n : ℕ} → ref k ≡ 4 → s ≡ ref x → n ≡ ref y → skip_empty s n ≡ instr_of k x y z
  unfolding instr_of
  skip_empty_said e f g = rw (names k 4 (omega arith) e, f, g)

  pub skip_full_said : {n : ℕ} → ref k ≡ 5 → s ≡ ref x → n ≡ ref y → skip_full s n ≡ instr_of k x y z
  unfolding instr_of
  skip_full_said e f g = rw (names k 5 (omega arith) e, f, g)

  pub skip_not_said : {n m : ℕ} → ref k ≡ 6 → s ≡ ref x → n ≡ ref y → m ≡ ref z → skip_not s n m ≡ instr_of k x y z
  unfolding instr_of
  skip_not_said e f g h = rw (names k 6 (omega arith) e, f, g, h)

  pub set_said : {c : ℤ} → ref k ≡ 7 → s ≡ ref x → c ≡ y → does (set_to s c) ≡ instr_of k x y z
  unfolding instr_of instr_act_by
  set_said e f g = rw (names k 7 (omega arith) e, f, g)

  pub add_said : {c : ℤ} → ref k ≡ 8 → s ≡ ref x → c ≡ y → does (add_to s c) ≡ instr_of k x y z
  unfolding instr_of instr_act_by
  add_said e f g = rw (names k 8 (omega arith) e, f, g)

  pub take_said : ref k ≡ 9 → s ≡ ref x → does (take_to s) ≡ instr_of k x y z
  unfolding instr_of instr_act_by
  take_said e f = rw (names k 9 (omega arith) e, f)

  pub send_said : {c : ℤ} → ref k ≡ 10 → s ≡ ref x → c ≡ y → does (send s c) ≡ instr_of k x y z
  unfolding instr_of instr_act_by
  send_said e f g = rw (names k 10 (omega arith) e, f, g)

-- any other code
pub tell_said : (k x y z : ℤ) {c : ℤ} → (ref k ≡ 1 → ⊥) → (ref k ≡ 2 → ⊥) → (ref k ≡ 3 → ⊥) → (ref k ≡ 4 → ⊥) → (ref k ≡ 5 → ⊥)
    → (ref k ≡ 6 → ⊥) → (ref k ≡ 7 → ⊥) → (ref k ≡ 8 → ⊥) → (ref k ≡ 9 → ⊥) → (ref k ≡ 10 → ⊥) → c ≡ x → does (tell c) ≡ instr_of k x y z
unfolding instr_of instr_act_by
tell_said k x y z n₁ n₂ n₃ n₄ n₅ n₆ n₇ n₈ n₉ n₁₀ e =
    rw (
      names_other k 1 n₁,
      names_other k 2 n₂,
      names_other k 3 n₃,
      names_other k 4 n₄,
      names_other k 5 n₅,
      names_other k 6 n₆,
      names_other k 7 n₇,
      names_other k 8 n₈,
      names_other k 9 n₉,
      names_other k 10 n₁₀,
      e,
    )

-- a number that is not 1 to 11 is no code
pub no_code : (n : ℕ) → (n ≡ 1 → ⊥) → (n ≡ 2 → ⊥) → (n ≡ 3 → ⊥) → (n ≡ 4 → ⊥) → (n ≡ 5 → ⊥) → (n ≡ 6 → ⊥) → (n ≡ 7 → ⊥) → (n ≡ 8 → ⊥)
    → (n ≡ 9 → ⊥) → (n ≡ 10 → ⊥) → (n ≡ 11 → ⊥) → None ≡ get_or CODES n None
no_code zero n₁ n₂ n₃ n₄ n₅ n₆ n₇ n₈ n₉ n₁₀ n₁₁ = refl
no_code (suc zero) n₁ n₂ n₃ n₄ n₅ n₆ n₇ n₈ n₉ n₁₀ n₁₁ = absurd (n₁ refl)
no_code (suc (suc zero)) n₁ n₂ n₃ n₄ n₅ n₆ n₇ n₈ n₉ n₁₀ n₁₁ = absurd (n₂ refl)
no_code (suc (suc (suc zero))) n₁ n₂ n₃ n₄ n₅ n₆ n₇ n₈ n₉ n₁₀ n₁₁ = absurd (n₃ refl)
no_code (suc (suc (suc (suc zero)))) n₁ n₂ n₃ n₄ n₅ n₆ n₇ n₈ n₉ n₁₀ n₁₁ = absurd (n₄ refl)
no_code (suc (suc (suc (suc (suc zero))))) n₁ n₂ n₃ n₄ n₅ n₆ n₇ n₈ n₉ n₁₀ n₁₁ = absurd (n₅ refl)
no_code (suc (suc (suc (suc (suc (suc zero)))))) n₁ n₂ n₃ n₄ n₅ n₆ n₇ n₈ n₉ n₁₀ n₁₁ = absurd (n₆ refl)
no_code (suc (suc (suc (suc (suc (suc (suc zero))))))) n₁ n₂ n₃ n₄ n₅ n₆ n₇ n₈ n₉ n₁₀ n₁₁ = absurd (n₇ refl)
no_code (suc (suc (suc (suc (suc (suc (suc (suc zero)))))))) n₁ n₂ n₃ n₄ n₅ n₆ n₇ n₈ n₉ n₁₀ n₁₁ = absurd (n₈ refl)
no_code (suc (suc (suc (suc (suc (suc (suc (suc (suc zero))))))))) n₁ n₂ n₃ n₄ n₅ n₆ n₇ n₈ n₉ n₁₀ n₁₁ = absurd (n₉ refl)
no_code (suc (suc (suc (suc (suc (suc (suc (suc (suc (suc zero)))))))))) n₁ n₂ n₃ n₄ n₅ n₆ n₇ n₈ n₉ n₁₀ n₁₁ = absurd (n₁₀ refl)
no_code (suc (suc (suc (suc (suc (suc (suc (suc (suc (suc (suc zero))))))))))) n₁ n₂ n₃ n₄ n₅ n₆ n₇ n₈ n₉ n₁₀ n₁₁ = absurd (n₁₁ refl)
no_code (suc (suc (suc (suc (suc (suc (suc (suc (suc (suc (suc (suc n)))))))))))) n₁ n₂ n₃ n₄ n₅ n₆ n₇ n₈ n₉ n₁₀ n₁₁ = refl
