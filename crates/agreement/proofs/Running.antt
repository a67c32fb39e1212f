-- Running code (01, "The plan"): piece after piece, a skip over exactly a piece, a test in front of a piece; and what it means that a
-- piece of code does what a step does, from any context or from those with some property. Assumes nothing.
use mathlib.Core.Path.{◌∙◌, ◌≡◌, ap, refl, sym}
use mathlib.Core.Bool.{Bool, false, true}
use mathlib.Core.List.{List, [], ◌++◌, ◌∷◌}
use lib.ListN.{length}
use lib.IntN.{ℤ}
use Rattle.laws.proofs.Steps.{Holds, each_append, each_concat_map}
use Rattle.meaning.specs.Lists.{concat_map}
use Rattle.meaning.specs.Machine.{Mach, end_code, exec, exec_at, go_on, on_if, passing, run_block, run_code}
use Rattle.meaning.specs.Steps.{Res, Step, ◌then◌, bind, each, look, ok, refuse, when}
use Rattle.meaning.specs.Widget.{Ctx}
use Rattle.meaning.specs.declared.chart.VarRow.{VarRow}
use Rattle.meaning.specs.declared.plan.Instr.{Instr}

-- ---- what a machine does that passes over nothing

-- where P holds F does what G does, and passes over nothing afterwards
abbrev pub DoesWhere : (Ctx → Type 0) → Step Mach → Step Ctx → Type 0
DoesWhere P F G = (k : Ctx) → P k → F (passing 0 k) ≡ go_on (G k)

-- the same from any context
abbrev pub Does : Step Mach → Step Ctx → Type 0
Does F G = (k : Ctx) → F (passing 0 k) ≡ go_on (G k)

bind_does : (P : Ctx → Type 0) (r : Res Ctx) (F : Step Mach) (G : Step Ctx) → Holds r P → DoesWhere P F G
    → bind (go_on r) F ≡ go_on (bind r G)
unfolding bind go_on
bind_does P (ok k) F G h d = d k h
bind_does P (refuse n) F G h d = refl

pub any_holds : (r : Res Ctx) → Holds r (λ k. Unit {0})
any_holds (ok k) = tt
any_holds (refuse n) = tt

bind_does_all : (r : Res Ctx) (F : Step Mach) (G : Step Ctx) → Does F G → bind (go_on r) F ≡ go_on (bind r G)
bind_does_all r F G d = bind_does (λ k. Unit {0}) r F G (any_holds r) (λ k h. d k)

pub each_does : {A : Type 0} (F : A → Step Mach) (G : A → Step Ctx) → ((x : A) → Does (F x) (G x)) → (xs : List A)
    → Does (each F xs) (each G xs)
unfolding each go_on
each_does F G h [] k = refl
each_does F G h (x ∷ xs) k = rw (h x k) (bind_does_all (G x k) (each F xs) (each G xs) (each_does F G h xs))

module _ (vs : List VarRow) (a : ℤ) where
  -- ---- pieces of code

  pub run_append : (p q : List Instr) (m : Mach) → run_code vs a (p ++ q) m ≡ bind (run_code vs a p m) (run_code vs a q)
  unfolding run_code
  run_append p q m = each_append (exec vs a) p q m

  -- a skip over exactly the length of a piece passes over that piece
  pub passed_over : (p : List Instr) (k : Ctx) → run_code vs a p (passing (length p) k) ≡ ok (passing 0 k)
  unfolding run_code each exec exec_at passing bind
  passed_over [] k = refl
  passed_over (i ∷ p) k = passed_over p k

  -- one piece after another
  pub append_does_where : (P Q : Ctx → Type 0) (p q : List Instr) (F G : Step Ctx) → DoesWhere P (run_code vs a p) F
      → ((k : Ctx) → P k → Holds (F k) Q)
      → DoesWhere Q (run_code vs a q) G → DoesWhere P (run_code vs a (p ++ q)) (F then G)
  unfolding ◌then◌
  append_does_where P Q p q F G dp l dq k h = run_append p q (passing 0 k) ∙ rw (dp k h) (bind_does Q (F k) (run_code vs a q) G (l k h) dq)

  pub append_does : (p q : List Instr) (F G : Step Ctx) → Does (run_code vs a p) F → Does (run_code vs a q) G
      → Does (run_code vs a (p ++ q)) (F then G)
  unfolding ◌then◌
  append_does p q F G dp dq k = run_append p q (passing 0 k) ∙ rw (dp k) (bind_does_all (F k) (run_code vs a q) G dq)

  -- one instruction, then a piece
  pub cons_does : (i : Instr) (p : List Instr) (F G : Step Ctx) → Does (exec vs a i) F → Does (run_code vs a p) G
      → Does (run_code vs a (i ∷ p)) (F then G)
  unfolding run_code ◌then◌ each
  cons_does i p F G di dp k = rw (di k) (bind_does_all (F k) (each (exec vs a) p) G dp)

  -- a test in front of a piece that passes over all of it
  pub test_does : (i : Instr) (p : List Instr) (b : Ctx → Bool) (G : Step Ctx)
      → ((k : Ctx) → exec vs a i (passing 0 k) ≡ on_if (b k) (length p) k)
      → Does (run_code vs a p) G → Does (run_code vs a (i ∷ p)) (look (λ k. when (b k) G))
  unfolding run_code each look bind on_if when go_on
  test_does i p b G di dp k = rw (di k) (go (b k))
    where
      go : (t : Bool) → bind (on_if t (length p) k) (run_code vs a p) ≡ go_on (when t G k)
      go true = dp k
      go false = passed_over p k

  -- a piece for each element of a list
  pub code_does : {A : Type 0} (code : A → List Instr) (G : A → Step Ctx) → ((x : A) → Does (run_code vs a (code x)) (G x))
      → (xs : List A) → Does (run_code vs a (concat_map code xs)) (each G xs)
  unfolding run_code
  code_does code G h xs k = each_concat_map (exec vs a) code xs (passing 0 k) ∙ each_does (λ x. each (exec vs a) (code x)) G h xs k

  -- ---- blocks

  end_of : (r : Res Ctx) → end_code (go_on r) ≡ r
  unfolding end_code go_on passing
  end_of (ok k) = refl
  end_of (refuse n) = refl

  -- code that does what F does, run as a block
  pub block_does : (code : List Instr) (F : Step Ctx) (k : Ctx) → run_code vs a code (passing 0 k) ≡ go_on (F k)
      → run_block vs a code k ≡ F k
  unfolding run_block
  block_does code F k d = rw d (end_of (F k))

  -- a closed piece: begun with nothing to pass over, it ends so
  abbrev pub Closed : List Instr → Type 0
  Closed p = Does (run_code vs a p) (run_block vs a p)

  pub does_closed : (p : List Instr) (F : Step Ctx) → Does (run_code vs a p) F → Closed p
  does_closed p F d k = d k ∙ ap go_on (sym (block_does p F k (d k)))

  -- closed pieces after one another, run as one block
  pub closed_append : (p q : List Instr) → Closed p → Closed q → (k : Ctx)
      → run_block vs a (p ++ q) k ≡ (run_block vs a p then run_block vs a q) k
  closed_append p q cp cq k = block_does (p ++ q) (run_block vs a p then run_block vs a q) k
      (append_does p q (run_block vs a p) (run_block vs a q) cp cq k)
