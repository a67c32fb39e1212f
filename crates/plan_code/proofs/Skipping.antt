-- SKIPOUTs one after the other (01, "pass over n if s is not active"), over plain variables: they act on nothing, so what is run from them
-- on is what stands past them. Assumes nothing.
use mathlib.Core.Path.{◌≡◌, sym, ap, ◌∙◌, subst}
use Prim.Native.Nat.{ℕ, ◌+◌, ◌-◌, ◌*◌, ◌<◌, ◌≤◌}
use native.Mathlib.Omega.{arith}
use mathlib.Core.Bool.{Bool, true, false, cond}
use mathlib.Core.List.{List}
use lib.ListN.{length, get_or, take, drop}
use lib.IntN.{ℤ}
use Rattle.sizes.specs.Sizes.{INSTRUCTIONS, TRANSITIONS, VARIABLES}
use Rattle.meaning.specs.declared.plan.Instr.{Instr}
use Rattle.meaning.specs.declared.plan.Instr.TheVariants.{SkipOut as skip_out}
use Rattle.meaning.specs.Steps.{bind}
use Rattle.meaning.specs.Widget.{is_active}
use Rattle.meaning.specs.Machine.{passing, on_if, exec_now, run_block}
use Rattle.meaning.specs.Value.{VAR_ROW}
use Rattle.meaning.specs.WellFormed.{SIX, HEAD_ROW, INSTR_ROW, counts_of, code_at, plan_by}
use Rattle.plan_code.proofs.Named.{block_near, instr_whole, in_code, instr_is, instr_runs}
use Rattle.plan_code.proofs.Walk.{go_further, block_first, left_first, left_further}
use Rattle.plan_code.specs.Code.{Passed, Rest, Row, Same, instr_from, row_of}

-- ---- one SKIPOUT of the code

module _ (code : List Instr) (last : ℕ) (active : List Bool) (i : ℕ) {s n : ℕ} {ins : Instr} (o : ins ≡ skip_out s n)
    (l : i < last) (m : i < length code) (q : get_or code i ins ≡ ins) where
  skip_turn : (b : Bool) → get_or active s false ≡ b → Same code last active i (i + 1 + cond b 0 n)
  unfolding exec_now is_active on_if bind go_further passing
  skip_turn b f vs a k e =
      ap (λ is. run_block vs a is k) (left_first code last i ins l m)
      ∙ block_first vs a (get_or code i ins) (take (last - (i + 1)) (drop (i + 1) code)) k
      ∙ ap (λ x. bind (exec_now vs a x k) (go_further vs a (take (last - (i + 1)) (drop (i + 1) code)))) (q ∙ o)
      ∙ ap (λ c. bind (on_if c n k) (go_further vs a (take (last - (i + 1)) (drop (i + 1) code)))) (ap (λ w. get_or w s false) e ∙ f)
      ∙ by b
    where
      by : (b : Bool) → bind (on_if b n k) (go_further vs a (take (last - (i + 1)) (drop (i + 1) code))) ≡ run_block vs a
          (take (last - (i + 1 + cond b 0 n)) (drop (i + 1 + cond b 0 n) code)) k
      by true = ap (λ is. run_block vs a is k) (left_further code last i 0)
      by false = ap (λ is. run_block vs a is k) (left_further code last i n)

-- ---- by the places of the rows

module _ {ns : List ℤ} {from end : ℕ} {active : List Bool} where
  pub passed_begin : Passed ns end from active from
  passed_begin = record {
    over = 0;
    there = omega arith;
    same = λ i last f e vs a k h.
        let z : i ≡ i + 0 = omega arith in
        ap (λ j. run_block vs a (take (last - j) (drop j (plan_by ns).code)) k) z;
  }

-- the rest of a block
module _ {ns : List ℤ} {from end : ℕ} (r : Rest ns from end) where
  base_is : code_at (counts_of ns) ≡ code_at r.k
  base_is = ap code_at (sym r.block.examined.counted)

  -- it ends at no place past 64 bits
  pub rest_near : end ≤ SIX + VARIABLES * VAR_ROW + TRANSITIONS * HEAD_ROW + INSTRUCTIONS * INSTR_ROW
  rest_near = omega (arith, r.there, block_near r.block base_is)

  module _ {active : List Bool} {row : ℕ} (p : Passed ns end from active row) (l : row < end) where
    within : r.i + p.over < r.start + r.len
    within = omega (arith, r.here, r.there, p.there, l)

    onward : r.start ≤ r.i + p.over
    onward = omega (arith, r.onward)

    place : row ≡ row_of ns (r.i + p.over)
    place = omega (arith, r.here, p.there)

    pub here_row : Row ns row
    here_row = record {
      formed = r.block.examined.formed;
      whole = omega (arith, place, instr_whole r.block base_is _ onward within);
      runs = instr_runs r.block base_is _ onward within (ap (instr_from ns) place);
    }

    module _ {s n : ℕ} (o : instr_from ns row ≡ skip_out s n) where
      turn : (i last : ℕ) → i ≡ r.i → last ≡ r.start + r.len → (b : Bool) → get_or active s false ≡ b
          → Same (plan_by ns).code last active (i + p.over) (i + p.over + 1 + cond b 0 n)
      turn i last e f b g =
          skip_turn (plan_by ns).code last active (i + p.over) o (omega (arith, within, e, f))
          (subst (λ j. j + p.over < length (plan_by ns).code) (sym e) (in_code r.block base_is _ onward within))
          (subst (λ j. get_or (plan_by ns).code (j + p.over) (instr_from ns row) ≡ instr_from ns row) (sym e)
          (instr_is r.block base_is _ onward within (ap (instr_from ns) place))) b g

      passed_on : (b : Bool) → get_or active s false ≡ b → Passed ns end from active (row + (1 + cond b 0 n) * INSTR_ROW)
      passed_on b g = record {
        over = p.over + 1 + cond b 0 n;
        there = omega (arith, p.there);
        same = λ i last f e vs a k h.
            let z : i + p.over + 1 + cond b 0 n ≡ i + (p.over + 1 + cond b 0 n) = omega arith in
            p.same i last f e vs a k h
            ∙ turn i last (omega (arith, f, r.here)) (omega (arith, e, r.there)) b g vs a k h
            ∙ ap (λ j. run_block vs a (take (last - j) (drop j (plan_by ns).code)) k) z;
      }

      -- an active state is asked for nothing more
      pub passed_active : get_or active s false ≡ true → Passed ns end from active (row + INSTR_ROW)
      passed_active g = passed_on true g

      -- what belongs to one that is not is passed over
      pub passed_idle : {d : ℕ} → d ≡ n → get_or active s false ≡ false → Passed ns end from active (row + (1 + d) * INSTR_ROW)
      passed_idle e g = subst (λ x. Passed ns end from active (row + (1 + x) * INSTR_ROW)) (sym e) (passed_on false g)
