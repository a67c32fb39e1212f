-- What the row of an instruction says, number by number, to code that reads its numbers where they stand (01, "The plan"): by its code,
-- which instruction it is, and that what it names is there. Assumes nothing.
use Rattle.std.specs.Prelude.{Option}
use mathlib.Core.Path.{◌≡◌, refl, sym, subst}
use Prim.Native.Nat.{ℕ, ◌+◌, ◌<◌, ◌≤◌}
use native.Mathlib.Omega.{arith}
use mathlib.Core.List.{List}
use lib.ListN.{get_or}
use lib.IntN.{ℤ, pos, negsuc}
use lib.Signed.{lt_z}
use borrow.Author.Tests.{le-ltb}
use mathlib.Core.Bool.{false}
use Rattle.sizes.specs.Sizes.{INSTRUCTIONS, STATES}
use Rattle.numbers.specs.Reference.{NOWHERE, ref}
use Rattle.numbers.specs.Place.{place_of}
use Rattle.meaning.specs.declared.chart.Act.TheVariants.{SetTo as set_to, AddTo as add_to, TakeTo as take_to, Send as send, Tell as tell}
use Rattle.meaning.specs.declared.plan.Instr.{Instr}
use Rattle.meaning.specs.declared.plan.Instr.TheVariants.{In as go_in, Out as go_out, SkipOut as skip_out, SkipEmpty as skip_empty}
use Rattle.meaning.specs.declared.plan.Instr.TheVariants.{SkipFull as skip_full, SkipNot as skip_not, Does as does}
use Rattle.meaning.specs.WellFormed.{counts_of, instr_of}
use Rattle.plan_rows.proofs.Rows.{instr_said}
use Rattle.plan_rows.proofs.Codes.{in_said, out_said, skip_out_said, skip_empty_said, skip_full_said, skip_not_said}
use Rattle.plan_rows.proofs.Codes.{set_said, add_said, take_said, send_said, tell_said}
use Rattle.widget.specs.Acts.{Below}
use Rattle.plan_code.specs.Code.{Runs, Row, Varied, instr_from}

-- a number that names something is not below 0
pub not_below : (z : ℤ) → ref z < NOWHERE → lt_z z (pos 0) ≡ false
not_below (pos n) h = le-ltb n 0 (omega arith)
not_below (negsuc n) h = absurd (omega arith)

module _ {ns : List ℤ} {b : ℕ} (w : Row ns b) where
  -- the numbers of the row
  abbrev nth : ℕ → ℤ
  nth j = get_or ns (b + j) (pos 0)

  says : {i : Instr} → i ≡ instr_of (nth 0) (nth 1) (nth 2) (nth 3) → instr_from ns b ≡ i
  says p = sym (instr_said ns b p)

  runs_as : {i : Instr} → instr_from ns b ≡ i → Runs (counts_of ns).vars i
  runs_as e = subst (Runs (counts_of ns).vars) e w.runs

  module _ {s : ℕ} (f : s ≡ ref (nth 1)) where
    pub is_in : ref (nth 0) ≡ 1 → instr_from ns b ≡ go_in s
    is_in e = says (in_said (nth 0) (nth 1) (nth 2) (nth 3) e f)

    pub is_out : {p : Option ℕ} → ref (nth 0) ≡ 2 → p ≡ place_of (nth 2) → instr_from ns b ≡ go_out s p
    is_out e g = says (out_said (nth 0) (nth 1) (nth 2) (nth 3) e f g)

    pub is_skip_out : ref (nth 0) ≡ 3 → instr_from ns b ≡ skip_out s (ref (nth 2))
    is_skip_out e = says (skip_out_said (nth 0) (nth 1) (nth 2) (nth 3) e f refl)

    pub is_skip_empty : ref (nth 0) ≡ 4 → instr_from ns b ≡ skip_empty s (ref (nth 2))
    is_skip_empty e = says (skip_empty_said (nth 0) (nth 1) (nth 2) (nth 3) e f refl)

    pub is_skip_full : ref (nth 0) ≡ 5 → instr_from ns b ≡ skip_full s (ref (nth 2))
    is_skip_full e = says (skip_full_said (nth 0) (nth 1) (nth 2) (nth 3) e f refl)

    pub is_skip_not : {d : ℕ} → ref (nth 0) ≡ 6 → d ≡ ref (nth 2) → instr_from ns b ≡ skip_not s d (ref (nth 3))
    is_skip_not e g = says (skip_not_said (nth 0) (nth 1) (nth 2) (nth 3) e f g refl)

    pub is_set : {x : ℤ} → ref (nth 0) ≡ 7 → x ≡ nth 2 → instr_from ns b ≡ does (set_to s x)
    is_set e g = says (set_said (nth 0) (nth 1) (nth 2) (nth 3) e f g)

    pub is_add : {x : ℤ} → ref (nth 0) ≡ 8 → x ≡ nth 2 → instr_from ns b ≡ does (add_to s x)
    is_add e g = says (add_said (nth 0) (nth 1) (nth 2) (nth 3) e f g)

    pub is_take : ref (nth 0) ≡ 9 → instr_from ns b ≡ does (take_to s)
    is_take e = says (take_said (nth 0) (nth 1) (nth 2) (nth 3) e f)

    pub is_send : {x : ℤ} → ref (nth 0) ≡ 10 → x ≡ nth 2 → instr_from ns b ≡ does (send s x)
    is_send e g = says (send_said (nth 0) (nth 1) (nth 2) (nth 3) e f g)

  pub is_tell : {x : ℤ} → (ref (nth 0) ≡ 1 → ⊥) → (ref (nth 0) ≡ 2 → ⊥) → (ref (nth 0) ≡ 3 → ⊥) → (ref (nth 0) ≡ 4 → ⊥)
      → (ref (nth 0) ≡ 5 → ⊥) → (ref (nth 0) ≡ 6 → ⊥) → (ref (nth 0) ≡ 7 → ⊥) → (ref (nth 0) ≡ 8 → ⊥) → (ref (nth 0) ≡ 9 → ⊥)
      → (ref (nth 0) ≡ 10 → ⊥) → x ≡ nth 1 → instr_from ns b ≡ does (tell x)
  is_tell n₁ n₂ n₃ n₄ n₅ n₆ n₇ n₈ n₉ n₁₀ g =
      says (tell_said (nth 0) (nth 1) (nth 2) (nth 3) n₁ n₂ n₃ n₄ n₅ n₆ n₇ n₈ n₉ n₁₀ g)

  -- ---- what is named is there

  pub in_names : ref (nth 0) ≡ 1 → ref (nth 1) < STATES
  in_names e = runs_as (is_in refl e)

  pub out_names : ref (nth 0) ≡ 2 → (ref (nth 1) < STATES) × Below STATES (place_of (nth 2))
  out_names e = runs_as (is_out refl e refl)

  pub skip_out_names : ref (nth 0) ≡ 3 → (ref (nth 1) < STATES) × (ref (nth 2) ≤ INSTRUCTIONS)
  skip_out_names e = runs_as (is_skip_out refl e)

  pub skip_empty_names : ref (nth 0) ≡ 4 → (ref (nth 1) < STATES) × (ref (nth 2) ≤ INSTRUCTIONS)
  skip_empty_names e = runs_as (is_skip_empty refl e)

  pub skip_full_names : ref (nth 0) ≡ 5 → (ref (nth 1) < STATES) × (ref (nth 2) ≤ INSTRUCTIONS)
  skip_full_names e = runs_as (is_skip_full refl e)

  pub skip_not_names : ref (nth 0) ≡ 6 → (ref (nth 1) < STATES) × (ref (nth 2) < STATES) × (ref (nth 3) ≤ INSTRUCTIONS)
  skip_not_names e = runs_as (is_skip_not refl e refl)

  pub set_names : ref (nth 0) ≡ 7 → Varied ns (ref (nth 1))
  set_names e = (w.formed, runs_as (is_set refl e refl))

  pub add_names : ref (nth 0) ≡ 8 → Varied ns (ref (nth 1))
  add_names e = (w.formed, runs_as (is_add refl e refl))

  pub take_names : ref (nth 0) ≡ 9 → Varied ns (ref (nth 1))
  take_names e = (w.formed, runs_as (is_take refl e))

  pub send_names : ref (nth 0) ≡ 10 → ref (nth 1) < NOWHERE
  send_names e = runs_as (is_send refl e refl)
