-- The whole plan from its parts, how long it is, and what the caller sees: the plan, or a refusal. Assumes nothing.
use mathlib.Core.Path.{◌≡◌, refl, sym, ap, ◌∙◌}
use Prim.Native.Nat.{ℕ, suc, ◌+◌, ◌*◌, ◌-◌, ◌≤◌, ◌<◌}
use mathlib.Core.Bool.{cond}
use mathlib.Core.List.{List, [], ◌∷◌, ◌++◌}
use mathlib.Core.Option.{Option, none, some}
use native.Mathlib.Omega.{arith}
use borrow.Author.Tests.{lt-ltb, le-ltb}
use lib.ListN.{length, take, drop, replicate, length-append}
use lib.Seq.{sets, sets-eq, length-sets, take-append_seam}
use lib.IntN.{ℤ, pos}
use Rattle.numbers.specs.Reference.{NOWHERE}
use Rattle.chart_rows.proofs.Rows.{vars_most}
use Rattle.meaning.specs.Rules.{Ruled}
use Rattle.meaning.specs.Chart.{Chart}
use Rattle.meaning.specs.declared.Answer.{Answer}
use Rattle.meaning.specs.declared.chart.VarRow.{VarRow}
use Rattle.meaning.specs.Lists.{concat_map, padded}
use Rattle.meaning.specs.Plan.{instr_numbers, head_numbers, var_numbers, six, plan_numbers}
use Rattle.meaning.specs.Compile.{block, head_of, heads_from, head_order, start_block, code_of, plan_of, compile}
use Rattle.meaning.specs.Compile.{compiled_into, compile_of, compiled, plan_lent}
use Rattle.meaning.specs.Text.{done, refused}
use Rattle.meaning.specs.Rules.{failing_rule_of, verdict}
use Rattle.meaning.specs.Value.{chart_of}
use Rattle.emitter.specs.Pen.{Pen, pen, puts, emits}
use Rattle.emitter.proofs.Laws.{puts_append, puts_at, numbers_count}
use Rattle.compiler.specs.Plans.{Compiles}
use Rattle.compiler.proofs.Bounds.{code_most, order_few}
use Rattle.compiler.proofs.Heading.{head_ten}

-- ---- how long it is

heads_count : (c : Chart) (at : ℕ) (ts : List ℕ) → length (heads_from c at ts) ≡ length ts
unfolding heads_from
heads_count c at [] = refl
heads_count c at (t ∷ ts) = ap suc (heads_count c (at + length (block c t)) ts)

ten_each : (c : Chart) (at : ℕ) (ts : List ℕ) → length (concat_map head_numbers (heads_from c at ts)) ≡ 10 * length ts
unfolding heads_from concat_map
ten_each c at [] = refl
ten_each c at (t ∷ ts) = omega (
  arith,
  length-append
      (head_numbers (head_of c at (length (block c t)) t)) (concat_map head_numbers (heads_from c (at + length (block c t)) ts)),
  head_ten (head_of c at (length (block c t)) t),
  ten_each c (at + length (block c t)) ts,
)

three_each : (vars : List VarRow) → length (concat_map var_numbers vars) ≡ 3 * length vars
unfolding concat_map var_numbers
three_each [] = refl
three_each (r ∷ rs) = omega (arith, three_each rs)

module _ (c : Chart) where
  abbrev vars_part : List ℤ
  vars_part = concat_map var_numbers c.vars

  abbrev heads_part : List ℤ
  heads_part = concat_map head_numbers (heads_from c (length (start_block c)) (head_order c))

  abbrev code_part : List ℤ
  code_part = concat_map instr_numbers (code_of c)

  parts : compile c ≡ six (plan_of c) ++ (vars_part ++ (heads_part ++ code_part))
  unfolding compile plan_numbers plan_of
  parts = refl

  six_six : length (six (plan_of c)) ≡ 6
  unfolding six
  six_six = refl

  pub plan_long : length (compile c) ≡ 6 + 3 * length c.vars + 10 * length (head_order c) + 4 * length (code_of c)
  plan_long =
      omega (
        arith,
        ap length parts,
        length-append (six (plan_of c)) (vars_part ++ (heads_part ++ code_part)),
        length-append vars_part (heads_part ++ code_part),
        length-append heads_part code_part,
        six_six,
        three_each c.vars,
        ten_each c (length (start_block c)) (head_order c),
        numbers_count (code_of c),
      )

  pub whole_put : (start : ℕ) → start ≡ length (start_block c)
      → (p : Pen) {p₀ p₁ p₂ p₃ : Pen} → p₀ ≡ puts (six (plan_of c)) p → p₁ ≡ puts (concat_map var_numbers c.vars) p₀
      → p₂ ≡ puts (concat_map head_numbers (heads_from c start (head_order c))) p₁ → p₃ ≡ emits (code_of c) p₂ → p₃ ≡ puts (compile c) p
  unfolding emits
  whole_put start e p {p₀} {p₁} f g h j =
      j ∙ ap (puts code_part) (h ∙ ap (λ n. puts (concat_map head_numbers (heads_from c n (head_order c))) p₁) e
      ∙ ap (puts heads_part) (g ∙ ap (puts vars_part) f))
      ∙ sym (puts_append heads_part code_part (puts vars_part (puts (six (plan_of c)) p)))
      ∙ sym (puts_append vars_part (heads_part ++ code_part) (puts (six (plan_of c)) p))
      ∙ sym (puts_append (six (plan_of c)) (vars_part ++ (heads_part ++ code_part)) p) ∙ ap (λ l. puts l p) (sym parts)

  -- the six numbers, three and three
  pub six_put : (states vars events heads code start : ℕ) → states ≡ length c.states → vars ≡ length c.vars
      → events ≡ c.events → heads ≡ length (head_order c) → code ≡ length (code_of c) → start ≡ length (start_block c)
      → (p : Pen) {p₁ p₂ : Pen} → p₁ ≡ puts (pos states ∷ pos vars ∷ pos events ∷ []) p
      → p₂ ≡ puts (pos heads ∷ pos code ∷ pos start ∷ []) p₁ → p₂ ≡ puts (six (plan_of c)) p
  unfolding six plan_of
  six_put states vars events heads code start a b d e f g p h j =
      j ∙ ap (puts (pos heads ∷ pos code ∷ pos start ∷ [])) h
      ∙ sym (puts_append (pos states ∷ pos vars ∷ pos events ∷ []) (pos heads ∷ pos code ∷ pos start ∷ []) p)
      ∙ ap (λ x. puts (pos x ∷ pos vars ∷ pos events ∷ pos heads ∷ pos code ∷ pos start ∷ []) p) a
      ∙ ap (λ x. puts (pos (length c.states) ∷ pos x ∷ pos events ∷ pos heads ∷ pos code ∷ pos start ∷ []) p) b
      ∙ ap (λ x. puts (pos (length c.states) ∷ pos (length c.vars) ∷ pos x ∷ pos heads ∷ pos code ∷ pos start ∷ []) p) d
      ∙ ap (λ x. puts (pos (length c.states) ∷ pos (length c.vars) ∷ pos c.events ∷ pos x ∷ pos code ∷ pos start ∷ []) p)
      (e ∙ sym (heads_count c (length (start_block c)) (head_order c)))
      ∙ ap (λ x. puts (pos (length c.states) ∷ pos (length c.vars)
      ∷ pos c.events ∷ pos (length (heads_from c (length (start_block c)) (head_order c))) ∷ pos x ∷ pos start ∷ []) p) f
      ∙ ap (λ x. puts (pos (length c.states) ∷ pos (length c.vars) ∷ pos c.events
      ∷ pos (length (heads_from c (length (start_block c)) (head_order c))) ∷ pos (length (code_of c)) ∷ pos x ∷ []) p) g

-- how many numbers the plan has, from what the compiler counts, and that each has a 32-bit place
pub plan_counted : (v : List ℤ) → Ruled v → {vars heads code : ℕ} → vars ≡ length (chart_of v).vars
    → heads ≡ length (head_order (chart_of v)) → code ≡ length (code_of (chart_of v))
    → (6 + 3 * vars + 10 * heads + 4 * code ≡ length (compile (chart_of v))) × (6 + 3 * vars + 10 * heads + 4 * code < NOWHERE)
plan_counted v r a b d = (omega (arith, plan_long (chart_of v)), omega (arith, vars_most v, order_few v r, code_most v r))

pub six_at : (c : Chart) (l : List ℤ) {l₁ : List ℤ} {r : ℕ} → pen l₁ r ≡ puts (six (plan_of c)) (pen l 0) → r ≡ 6
six_at c l e = omega (arith, puts_at (six (plan_of c)) l 0 e, six_six c)

pub vars_at : (c : Chart) (l : List ℤ) (at : ℕ) {l₁ : List ℤ} {r : ℕ}
    → pen l₁ r ≡ puts (concat_map var_numbers c.vars) (pen l at) → r ≡ at + 3 * length c.vars
vars_at c l at e = omega (arith, puts_at (concat_map var_numbers c.vars) l at e, three_each c.vars)

pub heads_at : (c : Chart) (start : ℕ) (l : List ℤ) (at : ℕ) {l₁ : List ℤ} {r : ℕ}
    → pen l₁ r ≡ puts (concat_map head_numbers (heads_from c start (head_order c))) (pen l at)
    → r ≡ at + 10 * length (head_order c)
heads_at c start l at e =
    omega (arith, puts_at (concat_map head_numbers (heads_from c start (head_order c))) l at e, ten_each c start (head_order c))

-- ---- what the caller sees

module _ (v : List ℤ) (l : List ℤ) where
  passed_as : Ruled v → compile_of v (length l) ≡ compiled_into (length l) (compile (chart_of v))
  unfolding compile_of
  passed_as r = ap (λ o. elim o [ none ↦ compiled_into (length l) (compile (chart_of v)) | some k ↦ refused 3 k ]) r

  -- what was put at the start, and 0 behind it
  laid : (ns after : List ℤ) (end : ℕ) → pen after end ≡ puts ns (pen l 0)
      → length ns ≤ length l → take end after ++ replicate (length after - end) (pos 0) ≡ padded (length l) (pos 0) ns
  unfolding puts padded
  laid ns after end e n =
      let a : after ≡ sets l 0 ns = ap (λ p. p.buf) e in
      let z : end ≡ length ns = ap (λ p. p.at) e ∙ (omega arith) in
      let s : sets l 0 ns ≡ ns ++ drop (0 + length ns) l = sets-eq ns l 0 (omega arith) in
      let long : length after ≡ length l = ap length a ∙ length-sets l 0 ns in
      ap (λ x. take x after ++ replicate (length after - x) (pos 0)) z
      ∙ ap (λ k. take (length ns) after ++ replicate (k - length ns) (pos 0)) long
      ∙ ap (λ x. take (length ns) x ++ replicate (length l - length ns) (pos 0)) (a ∙ s)
      ∙ ap (λ x. x ++ replicate (length l - length ns) (pos 0)) (take-append_seam ns (drop (0 + length ns) l))

  pub whole_fits : (ns after : List ℤ) (end : ℕ) → pen after end ≡ puts ns (pen l 0) → length ns ≤ length l → end ≤ length after
  unfolding puts
  whole_fits ns after end e n = omega (arith, ap (λ p. p.at) e, ap (λ p. length p.buf) e, length-sets l 0 ns)

  pub compiles_whole : Ruled v → length (compile (chart_of v)) ≤ length l
      → (after last : List ℤ) (end : ℕ) → pen after end ≡ puts (compile (chart_of v)) (pen l 0)
      → last ≡ take end after ++ replicate (length after - end) (pos 0)
      → Compiles v l (record { answer = record { number = 0; place = 0 }; length = end }) last
  unfolding compiled plan_lent compiled_into
  compiles_whole r n after last end e f =
      let z : end ≡ length (compile (chart_of v)) = puts_at (compile (chart_of v)) l 0 e ∙ (omega arith) in
      let k : compile_of v (length l) ≡ done (compile (chart_of v))
      = passed_as r ∙ ap (λ b. cond b (refused 4 0) (done (compile (chart_of v))))
      (le-ltb (length l) (length (compile (chart_of v))) n) in (
        ap (λ x. record { answer = record { number = 0; place = 0 }; length = x }) z ∙ ap compiled (sym k),
        f ∙ laid (compile (chart_of v)) after end e n ∙ ap (plan_lent (length l)) (sym k),
      )

  cleared : (last : List ℤ) → last ≡ take 0 l ++ replicate (length l - 0) (pos 0) → last ≡ replicate (length l) (pos 0)
  cleared last f = let z : length l - 0 ≡ length l = omega arith in f ∙ ap (λ n. replicate n (pos 0)) z

  nothing : (n p : ℕ) → plan_lent (length l) (refused n p) ≡ replicate (length l) (pos 0)
  unfolding plan_lent
  nothing n p = refl

  pub compiles_over : Ruled v → length l < length (compile (chart_of v))
      → (last : List ℤ) → last ≡ take 0 l ++ replicate (length l - 0) (pos 0)
      → Compiles v l (record { answer = record { number = 4; place = 0 }; length = 0 }) last
  unfolding compiled compiled_into
  compiles_over r n last f =
      let k : compile_of v (length l) ≡ refused 4 0
      = passed_as r ∙ ap (λ b. cond b (refused 4 0) (done (compile (chart_of v)))) (lt-ltb (length l) (length (compile (chart_of v))) n) in
      (ap compiled (sym k), cleared last f ∙ sym (nothing 4 0) ∙ ap (plan_lent (length l)) (sym k))

  module _ (a : Answer) (e : a ≡ verdict (failing_rule_of v)) where
    pub passed : a.number ≡ 0 → Ruled v
    unfolding verdict
    passed h = go (failing_rule_of v) (ap (λ x. x.number) (sym e) ∙ h)
      where
        go : (o : Option ℕ) → (verdict o).number ≡ 0 → o ≡ none
        go none h₁ = refl
        go (some k) h₁ = absurd (omega arith)

    pub compiles_refused : (a.number ≡ 0 → ⊥) → (last : List ℤ)
        → last ≡ take 0 l ++ replicate (length l - 0) (pos 0) → Compiles v l (record { answer = a; length = 0 }) last
    unfolding compile_of compiled verdict
    compiles_refused h last f = go (failing_rule_of v) refl
      where
        go : (o : Option ℕ) → failing_rule_of v ≡ o → Compiles v l (record { answer = a; length = 0 }) last
        go none x = absurd (h (ap (λ y. y.number) (e ∙ ap verdict x)))
        go (some r) x =
            let k : compile_of v (length l) ≡ refused 3 r
            = ap (λ y. elim y [ none ↦ compiled_into (length l) (compile (chart_of v)) | some q ↦ refused 3 q ]) x in
            let w : a ≡ record { number = 3; place = r } = e ∙ ap verdict x in (
              ap (λ y. record { answer = y; length = 0 }) w ∙ ap compiled (sym k),
              cleared last f ∙ sym (nothing 3 r) ∙ ap (plan_lent (length l)) (sym k),
            )
