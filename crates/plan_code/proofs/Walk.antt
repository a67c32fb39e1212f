-- Running a block as a walk (01, "pass over n"), over plain variables: with n instructions to be passed over, what is run is what stands n
-- further on; so a block is its first instruction and then what stands so far on as that says. Assumes nothing.
use mathlib.Core.Path.{◌≡◌, refl, sym, ap, ◌∙◌, subst}
use Prim.Native.Nat.{ℕ, zero, suc, ◌+◌, ◌-◌, ◌*◌, ◌≤◌, ◌<◌}
use native.Mathlib.Omega.{arith}
use native.Mathlib.Numerals.{add-one}
use mathlib.Core.List.{List, [], ◌∷◌}
use lib.ListN.{length, get_or, take, drop}
use lib.Seq.{drop-drop, drop-cons}
use lib.IntN.{ℤ}
use Rattle.meaning.specs.declared.chart.VarRow.{VarRow}
use Rattle.meaning.specs.declared.plan.Instr.{Instr}
use Rattle.meaning.specs.WellFormed.{INSTR_ROW, counts_of, code_at, plan_by}
use Rattle.meaning.specs.Steps.{Res, ok, refuse, Step, bind, each}
use Rattle.meaning.specs.Widget.{Ctx}
use Rattle.meaning.specs.Machine.{Mach, passing, exec_now, exec_at, exec, run_code, end_code, run_block}
use Rattle.std.specs.Prelude.{Result, Ok, Err}
use Rattle.meaning.specs.declared.answers.Refusal.{Refusal}
use Rattle.meaning.specs.declared.State.{State}
use Rattle.widget.specs.View.{ctx, went, Did, Owes}
use Rattle.widget.proofs.Going as going
use Rattle.plan_code.specs.declared.Moved.{Moved}
use Rattle.plan_code.specs.Code.{moved, Execs, Same, Passed}

-- ---- passing over

module _ (vs : List VarRow) (a : ℤ) where
  over_drops : (n : ℕ) (code : List Instr) (k : Ctx) → end_code (run_code vs a code (passing n k)) ≡ run_block vs a (drop n code) k
  unfolding run_block run_code end_code each exec exec_at passing bind
  over_drops zero code k = refl
  over_drops (suc n) [] k = refl
  over_drops (suc n) (i ∷ code) k = over_drops n code k

  -- the first instruction, then what stands so far on as it says
  unfoldable pub go_further : List Instr → Mach → Res Ctx
  go_further code m = run_block vs a (drop m.over code) m.ctx

  pub block_first : (i : Instr) (code : List Instr) (k : Ctx) → run_block vs a (i ∷ code) k ≡ bind (exec_now vs a i k) (go_further code)
  unfolding run_block run_code end_code each exec exec_at passing bind go_further
  block_first i code k = go (exec_now vs a i k)
    where
      go : (r : Res Mach) → end_code (bind r (each (exec vs a) code)) ≡ bind r (go_further code)
      go (ok m) = over_drops m.over code m.ctx
      go (refuse n) = refl

  pub block_none : (k : Ctx) → run_block vs a [] k ≡ ok k
  unfolding run_block run_code end_code each passing
  block_none k = refl

-- ---- what is left of a block

take_none : {A : Type 0} (k : ℕ) → take {A = A} k [] ≡ []
take_none zero = refl
take_none (suc k) = refl

drop_take : {A : Type 0} (n m : ℕ) (xs : List A) → drop n (take m xs) ≡ take (m - n) (drop n xs)
drop_take zero m xs = let q : m - 0 ≡ m = omega arith in rw q
drop_take (suc n) zero xs = let q : 0 - suc n ≡ 0 = omega arith in rw q
drop_take (suc n) (suc m) [] = sym (take_none (suc m - suc n))
drop_take (suc n) (suc m) (x ∷ xs) = let q : suc m - suc n ≡ m - n = omega arith in rw q (drop_take n m xs)

module _ {A : Type 0} (code : List A) (end i : ℕ) where
  -- the instructions from i up to the block's end
  pub left_first : (d : A) → i < end → i < length code
      → take (end - i) (drop i code) ≡ get_or code i d ∷ take (end - (i + 1)) (drop (i + 1) code)
  left_first d l m =
      let q : end - i ≡ suc (end - (i + 1)) = omega arith in
      rw (q, drop-cons code i d m, add-one i)

  pub left_further : (n : ℕ) → drop n (take (end - (i + 1)) (drop (i + 1) code)) ≡ take (end - (i + 1 + n)) (drop (i + 1 + n) code)
  left_further n =
      let q : end - (i + 1) - n ≡ end - (i + 1 + n) = omega arith in
      drop_take n (end - (i + 1)) (drop (i + 1) code) ∙ rw (q, drop-drop n (i + 1) code)

  pub left_none : end ≤ i → take (end - i) (drop i code) ≡ []
  left_none l = let q : end - i ≡ 0 = omega arith in rw q

-- ---- the walk, turn by turn

abbrev pub rest : List VarRow → ℤ → List Instr → ℕ → ℕ → Step Ctx
rest vs a code end i = run_block vs a (take (end - i) (drop i code))

-- at i: what is left of the block is still owed
pub record Walking (vs : List VarRow) (a : ℤ) (code : List Instr) (end from : ℕ) (u : State) (t : List ℤ) (at i : ℕ)
    (u' : State) (t' : List ℤ) (next : ℕ) : Type 0 where
  pub owes : Owes (rest vs a code end from) u t at (rest vs a code end i) u' t' next
  pub onward : from ≤ i

module _ {vs : List VarRow} {a : ℤ} {code : List Instr} {end from : ℕ} {u : State} {t : List ℤ} {at : ℕ} where
  pub walking_begin : at ≤ length t → Walking vs a code end from u t at from u t at
  walking_begin l = record { owes = going.owes_all l; onward = omega arith }

  module _ {i : ℕ} {u₁ : State} {t₁ : List ℤ} {next : ℕ} (w : Walking vs a code end from u t at i u₁ t₁ next) where
    pub walking_end : end ≤ i → Did (rest vs a code end from) u t at (Ok next) u₁ t₁
    walking_end l = going.owes_none w.owes (ap (λ is. run_block vs a is (ctx u₁ t₁ next)) (left_none code end i l)
        ∙ block_none vs a (ctx u₁ t₁ next))

    -- past instructions that act on nothing
    pub walking_past : {j : ℕ} → i ≤ j → Same code end u₁.active i j → Walking vs a code end from u t at j u₁ t₁ next
    unfolding ctx
    walking_past {j} l s = record {
      owes = going.owes_as (rest vs a code end j) w.owes (sym (s vs a (ctx u₁ t₁ next) refl));
      onward = omega (arith, w.onward, l);
    }

    module _ {ins : Instr} (l : i < end) (m : i < length code) (q : get_or code i ins ≡ ins) where
      further : Mach → Res Ctx
      further = go_further vs a (take (end - (i + 1)) (drop (i + 1) code))

      -- what is owed at i, by way of what the instruction gave
      turn : rest vs a code end i (ctx u₁ t₁ next) ≡ bind (exec_now vs a ins (ctx u₁ t₁ next)) further
      unfolding go_further further bind
      turn =
          ap (λ is. run_block vs a is (ctx u₁ t₁ next)) (left_first code end i ins l m)
          ∙ block_first vs a (get_or code i ins) (take (end - (i + 1)) (drop (i + 1) code)) (ctx u₁ t₁ next)
          ∙ ap (λ x. bind (exec_now vs a x (ctx u₁ t₁ next)) further) q

      pub walking_stop : {e : Refusal} {u₂ : State} {t₂ : List ℤ} → Execs vs a ins u₁ t₁ next (Err e) u₂ t₂ → Did (rest vs a code end from) u t at (Err e) u₂ t₂
      unfolding went moved bind
      walking_stop d = record {
        does = ap (λ x. bind x further) d.does ∙ sym turn ∙ w.owes.gives;
        fits = tt;
        kept = d.kept ∙ w.owes.kept;
      }

      here : (o : ℕ) (k : Ctx) → run_block vs a (take (end - (i + 1 + o)) (drop (i + 1 + o) code)) k ≡ further (passing o k)
      unfolding passing go_further further
      here o k = ap (λ is. run_block vs a is k) (sym (left_further code end i o))

      pub walking_on : {r : Moved} {u₂ : State} {t₂ : List ℤ} → Execs vs a ins u₁ t₁ next (Ok r) u₂ t₂
          → Walking vs a code end from u t at (i + 1 + r.over) u₂ t₂ r.at
      unfolding moved bind
      walking_on {r} {u₂} {t₂} d = record {
        owes = record {
          gives = here r.over (ctx u₂ t₂ r.at) ∙ ap (λ x. bind x further) d.does ∙ sym turn ∙ w.owes.gives;
          fits = d.fits;
          kept = d.kept ∙ w.owes.kept;
        };
        onward = omega (arith, w.onward);
      }

-- the same at the place where the row of an instruction begins, where the rows of the plan begin at base
pub record Standing (vs : List VarRow) (a : ℤ) (code : List Instr) (base end from : ℕ) (u : State) (t : List ℤ) (at row : ℕ)
    (u' : State) (t' : List ℤ) (next : ℕ) : Type 0 where
  pub i : ℕ
  pub here : row ≡ base + i * INSTR_ROW
  pub walking : Walking vs a code end from u t at i u' t' next

module _ {vs : List VarRow} {a : ℤ} {code : List Instr} {base end from : ℕ} {u : State} {t : List ℤ} {at row : ℕ}
    {u₁ : State} {t₁ : List ℤ} {next : ℕ} (s : Standing vs a code base end from u t at row u₁ t₁ next) where
  pub standing_on : {ins : Instr} {r : Moved} {u₂ : State} {t₂ : List ℤ} → s.i < end → s.i < length code → get_or code s.i ins ≡ ins
      → Execs vs a ins u₁ t₁ next (Ok r) u₂ t₂ → Standing vs a code base end from u t at (row + (1 + r.over) * INSTR_ROW) u₂ t₂ r.at
  standing_on {r = r} l m q d = record {
    i = s.i + 1 + r.over;
    here = omega (arith, s.here);
    walking = walking_on s.walking l m q d;
  }

  pub standing_past : {ns : List ℤ} {to : ℕ} → code ≡ (plan_by ns).code → base ≡ code_at (counts_of ns)
      → Passed ns (base + end * INSTR_ROW) row u₁.active to → Standing vs a code base end from u t at to u₁ t₁ next
  standing_past e b p = record {
    i = s.i + p.over;
    here = omega (arith, s.here, p.there);
    walking = walking_past s.walking (omega arith)
        (subst (λ c. Same c end u₁.active s.i (s.i + p.over)) (sym e)
        (p.same s.i end (omega (arith, s.here, b)) (omega (arith, b))));
  }

-- a block from its start on, by its length
pub block_by : (vs : List VarRow) (a : ℤ) (code : List Instr) (end start len : ℕ) {u : State} {t : List ℤ} {at : ℕ}
    {r : Result ℕ Refusal} {u' : State} {t' : List ℤ} → end ≡ start + len
    → Did (rest vs a code end start) u t at r u' t' → Did (run_block vs a (take len (drop start code))) u t at r u' t'
block_by vs a code end start len {u} {t} {at} {r} {u'} {t'} e d =
    let q : end - start ≡ len = omega arith in
    subst (λ n. Did (run_block vs a (take n (drop start code))) u t at r u' t') q d
