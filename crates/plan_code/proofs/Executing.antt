-- One instruction, over plain variables: what its effect or its test makes of what is lent. Assumes nothing.
use Rattle.std.specs.Prelude.{Option, None, Some, Result, Ok, Err, IfOk, is_some}
use Rattle.std.specs.Option.{option_eq}
use Rattle.std.proofs.Common.{nat_eq}
use mathlib.Core.Path.{◌≡◌, refl, sym, ap, ◌∙◌, subst}
use Prim.Native.Nat.{ℕ, zero, suc, ◌+◌, ◌*◌, ◌≤◌, ◌<◌}
use native.Mathlib.Omega.{arith}
use mathlib.Core.Bool.{Bool, true, false, cond, not, false≢true}
use mathlib.Core.List.{List, [], ◌∷◌}
use lib.ListN.{length, get_or}
use lib.Dec.{eqb}
use lib.IntN.{ℤ, pos, negsuc}
use Rattle.sizes.specs.Sizes.{INSTRUCTIONS, VARIABLES}
use Rattle.numbers.specs.Place.{place_of}
use Rattle.meaning.specs.declared.chart.VarRow.{VarRow}
use Rattle.meaning.specs.declared.chart.Act.TheVariants.{SetTo as set_to, AddTo as add_to, TakeTo as take_to, Send as send, Tell as tell}
use Rattle.meaning.specs.declared.plan.Instr.{Instr}
use Rattle.meaning.specs.declared.plan.Instr.TheVariants.{In as go_in, Out as go_out, SkipOut as skip_out, SkipEmpty as skip_empty}
use Rattle.meaning.specs.declared.plan.Instr.TheVariants.{SkipFull as skip_full, SkipNot as skip_not, Does as does}
use Rattle.meaning.specs.Steps.{ok, Step}
use Rattle.meaning.specs.Chart.{no_var}
use Rattle.meaning.specs.Tree.{var_row}
use Rattle.meaning.specs.Effects.{mark_left, mark_entered, assign, act_on, act_var, perform}
use Rattle.meaning.specs.Widget.{Ctx, is_active, slot, is_empty, is_filled}
use Rattle.meaning.specs.Widget.{emit}
use Rattle.meaning.specs.declared.Entry.TheVariants.{Told as told}
use Rattle.meaning.specs.Machine.{passing, go_on, on_if, holds_it, exec_now}
use Rattle.meaning.specs.Value.{VAR_ROW, var_by}
use Rattle.meaning.specs.WellFormed.{SIX, counts_of, plan_by}
use Rattle.plan_rows.specs.Rows.{row}
use Rattle.plan_rows.proofs.Rows.{sized, var_of_plan, var_there}
use Rattle.plan_choice.proofs.Facts.{passes}
use Rattle.widget.specs.Acts.{adding, sending}
use Rattle.meaning.specs.declared.answers.Refusal.{Refusal}
use Rattle.meaning.specs.declared.State.{State}
use Rattle.widget.specs.View.{ctx, went, Did}
use Rattle.plan_code.specs.declared.Moved.{Moved}
use Rattle.plan_code.specs.Code.{Varied, onward_of, moved, Execs}

-- ---- an effect

onward_moves : (w : Result ℕ Refusal) (u : State) (t : List ℤ) → moved (onward_of w) u t ≡ go_on (went w u t)
unfolding moved go_on went
onward_moves (Ok n) u t = refl
onward_moves (Err e) u t = refl

onward_fits : (w : Result ℕ Refusal) (n : ℕ) → IfOk w (λ m. m ≤ n) → IfOk (onward_of w) (λ m. m.at ≤ n)
onward_fits (Ok m) n h = h
onward_fits (Err e) n h = tt

onward_near : (w : Result ℕ Refusal) → IfOk (onward_of w) (λ m. m.over ≤ INSTRUCTIONS)
onward_near (Ok m) = omega arith
onward_near (Err e) = tt

module _ {vs : List VarRow} {a : ℤ} {u : State} {t : List ℤ} {at : ℕ} {u' : State} {t' : List ℤ} {w : Result ℕ Refusal}
    {r : Result Moved Refusal} (e : r ≡ onward_of w) where
  effect : {i : Instr} (x : Instr) → i ≡ x → (D : Step Ctx) → ((k : Ctx) → exec_now vs a x k ≡ go_on (D k)) → Did D u t at w u' t'
      → Execs vs a i u t at r u' t'
  effect {i} x q D f d =
      subst (λ m. Execs vs a i u t at m u' t') (sym e) (subst (λ y. Execs vs a y u t at (onward_of w) u' t') (sym q)
      (record {
        does = onward_moves w u' t' ∙ ap go_on d.does ∙ sym (f (ctx u t at));
        fits = onward_fits w (length t') d.fits;
        kept = d.kept;
        near = onward_near w;
      }))

  pub enters : {i : Instr} {s : ℕ} → i ≡ go_in s → Did (mark_entered s) u t at w u' t' → Execs vs a i u t at r u' t'
  unfolding exec_now
  enters {i} {s} q d = effect (go_in s) q (mark_entered s) (λ k. refl) d

  pub leaves : {i : Instr} {s : ℕ} {p : Option ℕ} → i ≡ go_out s p → Did (mark_left p s) u t at w u' t' → Execs vs a i u t at r u' t'
  unfolding exec_now
  leaves {i} {s} {p} q d = effect (go_out s p) q (mark_left p s) (λ k. refl) d

  pub sets : {i : Instr} (v : ℕ) (x : ℤ) → i ≡ does (set_to v x) → Did (assign (var_row vs v) v x) u t at w u' t'
      → Execs vs a i u t at r u' t'
  unfolding exec_now perform act_on act_var
  sets v x q d = effect (does (set_to v x)) q (assign (var_row vs v) v x) (λ k. refl) d

  pub adds : {i : Instr} (v : ℕ) (x : ℤ) → i ≡ does (add_to v x) → Did (adding (var_row vs v) v x) u t at w u' t'
      → Execs vs a i u t at r u' t'
  unfolding exec_now perform act_on act_var adding
  adds v x q d = effect (does (add_to v x)) q (adding (var_row vs v) v x) (λ k. refl) d

  pub takes : {i : Instr} (v : ℕ) → i ≡ does (take_to v) → Did (assign (var_row vs v) v a) u t at w u' t'
      → Execs vs a i u t at r u' t'
  unfolding exec_now perform act_on act_var
  takes v q d = effect (does (take_to v)) q (assign (var_row vs v) v a) (λ k. refl) d

  pub sends : {i : Instr} (e : ℕ) (x : ℤ) → i ≡ does (send e x) → Did (sending e x) u t at w u' t' → Execs vs a i u t at r u' t'
  unfolding exec_now perform act_on sending
  sends e x q d = effect (does (send e x)) q (sending e x) (λ k. refl) d

  pub tells : {i : Instr} (x : ℤ) → i ≡ does (tell x) → Did (emit (told x)) u t at w u' t' → Execs vs a i u t at r u' t'
  unfolding exec_now perform act_on
  tells x q d = effect (does (tell x)) q (emit (told x)) (λ k. refl) d

-- ---- a test

on_if_moves : (b : Bool) (n : ℕ) (k : Ctx) → ok (passing (cond b 0 n) k) ≡ on_if b n k
unfolding on_if
on_if_moves true n k = refl
on_if_moves false n k = refl

over_near : (c : Bool) (n : ℕ) → n ≤ INSTRUCTIONS → cond c 0 n ≤ INSTRUCTIONS
over_near true n l = omega arith
over_near false n l = l

get_d_any : {A : Type 0} (xs : List A) (i : ℕ) (d e : A) → i < length xs → get_or xs i d ≡ get_or xs i e
get_d_any [] i d e l = absurd (omega arith)
get_d_any (x ∷ xs) zero d e l = refl
get_d_any (x ∷ xs) (suc i) d e l = get_d_any xs i d e (omega arith)

slot_there : (slots : List ℤ) (s : ℕ) → s < length slots → place_of (get_or slots s (pos 0)) ≡ place_of (get_or slots s (negsuc 0))
slot_there slots s h = ap place_of (get_d_any slots s (pos 0) (negsuc 0) h)

-- what stands in a slot that is there
in_slot : (u : State) (s : ℕ) {held : Option ℕ} → s < length u.slots → held ≡ place_of (get_or u.slots s (pos 0)) → held ≡ slot u s
unfolding slot
in_slot u s h g = g ∙ slot_there u.slots s h

module _ {vs : List VarRow} {a : ℤ} {u : State} {t : List ℤ} {at : ℕ} (b : Bool) {n : ℕ} {r : Moved}
    (e : r ≡ record { at = at; over = cond b 0 n }) (l : at ≤ length t) (m : n ≤ INSTRUCTIONS) where
  test : {i : Instr} (x : Instr) → i ≡ x → (exec_now vs a x (ctx u t at) ≡ on_if b n (ctx u t at)) → Execs vs a i u t at (Ok r) u t
  unfolding moved
  test {i} y p f =
      let m₀ : Moved = record { at = at; over = cond b 0 n } in
      subst (λ x. Execs vs a i u t at (Ok x) u t) (sym e) (subst (λ x. Execs vs a x u t at (Ok m₀) u t) (sym p)
      (record {
        does = on_if_moves b n (ctx u t at) ∙ sym f;
        fits = l;
        kept = refl;
        near = over_near b n m;
      }))

  pub skips_out : {i : Instr} {s : ℕ} → i ≡ skip_out s n → b ≡ get_or u.active s false → Execs vs a i u t at (Ok r) u t
  unfolding exec_now is_active ctx
  skips_out {i} {s} p q = test (skip_out s n) p (ap (λ c. on_if c n (ctx u t at)) (sym q))

  module _ {s : ℕ} (h : s < length u.slots) {held : Option ℕ} (g : held ≡ place_of (get_or u.slots s (pos 0))) where
    pub skips_empty : {i : Instr} → i ≡ skip_empty s n → b ≡ is_filled held → Execs vs a i u t at (Ok r) u t
    unfolding exec_now ctx
    skips_empty p q = test (skip_empty s n) p (ap (λ c. on_if c n (ctx u t at)) (ap is_filled (sym (in_slot u s h g)) ∙ sym q))

    pub skips_full : {i : Instr} → i ≡ skip_full s n → b ≡ is_empty held → Execs vs a i u t at (Ok r) u t
    unfolding exec_now ctx
    skips_full p q = test (skip_full s n) p (ap (λ c. on_if c n (ctx u t at)) (ap is_empty (sym (in_slot u s h g)) ∙ sym q))

    pub skips_not : {i : Instr} {d : ℕ} → i ≡ skip_not s d n → b ≡ holds_it d held → Execs vs a i u t at (Ok r) u t
    unfolding exec_now ctx
    skips_not {d = d} p q = test (skip_not s d n) p (ap (λ c. on_if c n (ctx u t at)) (ap (holds_it d) (sym (in_slot u s h g)) ∙ sym q))

-- ---- what a slot holds

pub is_some_filled : (p : Option ℕ) → is_some p ≡ is_filled p
unfolding is_filled
is_some_filled None = refl
is_some_filled (Some d) = refl

pub not_some_empty : (b : Bool) (p : Option ℕ) → is_some p ≡ not b → b ≡ is_empty p
unfolding is_empty
not_some_empty true None e = refl
not_some_empty false None e = absurd (false≢true e)
not_some_empty true (Some d) e = absurd (false≢true (sym e))
not_some_empty false (Some d) e = refl

pub same_holds : (d : ℕ) (p : Option ℕ) → option_eq nat_eq (Some d) p ≡ holds_it d p
unfolding holds_it
same_holds d None = refl
same_holds d (Some x) = refl

-- ---- variables

-- the row of a variable of the plan
module _ (ns : List ℤ) (v : ℕ) (h : Varied ns v) where
  pub row_there : SIX + (v + 1) * VAR_ROW ≤ length ns
  row_there = var_there ns (counts_of ns) (passes (record { formed = h.0; counted = refl })).whole v h.1

  pub row_is : {r : VarRow} → r ≡ var_by (row VAR_ROW SIX v ns) → r ≡ var_row (plan_by ns).vars v
  unfolding var_row
  row_is q = q ∙ sym (var_of_plan ns v no_var h.1)

  pub var_below : v < VARIABLES
  var_below = omega (arith, (sized ns).vars, h.1)
