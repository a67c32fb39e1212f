-- What the tests of a head and of an instruction say, as plain facts about what the row states: numbers that name something name one that
-- there is, constants are in range, and a skip stays within its block. Assumes nothing.
use Rattle.std.specs.Prelude.{Option, None, Some}
use Prim.Native.Nat.{ℕ, zero, suc, ◌<◌, ◌≤◌}
use mathlib.Core.Path.{◌≡◌, refl, sym, ◌∙◌}
use mathlib.Core.Bool.{Bool, true, false, cond, ◌&&◌, false≢true}
use mathlib.Core.Logic.{◌⊎◌, inl, inr}
use mathlib.Core.List.{List}
use native.Mathlib.Omega.{arith}
use borrow.Author.Tests.{ltb-true, leb-true, le-leb}
use lib.Dec.{leb}
use lib.IntN.{ℤ, pos, negsuc}
use lib.Signed.{le_z}
use lib.ListN.{get_or, take}
use lib.Seq.{get_or-take}
use Rattle.sizes.specs.Sizes.{STATES, TRANSITIONS}
use Rattle.numbers.specs.Equal.{eq_z}
use Rattle.numbers.specs.Range.{in_range}
use Rattle.numbers.specs.Reference.{ref, NOWHERE}
use Rattle.numbers.specs.Place.{place_of}
use Rattle.numbers.proofs.Laws.{eq_z_true}
use Rattle.laws.proofs.Lists.{and_left, and_right, or_cases}
use Rattle.meaning.specs.declared.chart.Act.{Act}
use Rattle.meaning.specs.declared.chart.Act.TheVariants.{SetTo as set_to, AddTo as add_to, TakeTo as take_to, Send as send, Tell as tell}
use Rattle.meaning.specs.declared.chart.Guard.{Guard}
use Rattle.meaning.specs.declared.chart.Guard.TheVariants.{Always as always, Compares as compares}
use Rattle.meaning.specs.declared.chart.Sign.TheVariants.{Equal as equal, Less as less, More as more}
use Rattle.meaning.specs.declared.plan.Counts.{Counts}
use Rattle.meaning.specs.declared.plan.Head.{Head}
use Rattle.meaning.specs.declared.plan.Instr.{Instr}
use Rattle.meaning.specs.declared.plan.Instr.TheVariants.{In as go_in, Out as go_out, SkipOut as skip_out, SkipEmpty as skip_empty}
use Rattle.meaning.specs.declared.plan.Instr.TheVariants.{SkipFull as skip_full, SkipNot as skip_not, Does as does}
use Rattle.meaning.specs.Value.{num, size_by, count_fits}
use Rattle.meaning.specs.WellFormed.{INSTR_ROW, head_guard_by, head_by, instr_act_by, instr_of, instr_by, one_of}
use Rattle.meaning.specs.WellFormed.{head_guard_fits, span_fits, head_fits, Operand, a_state, a_parent, a_variable, an_event}
use Rattle.meaning.specs.WellFormed.{a_constant, a_skip, unused}
use Rattle.meaning.specs.WellFormed.{Shape, no_shape, shape, SHAPES, operand_fits, shape_fits, instr_fits}

-- ---- the facts

abbrev pub GuardKept : Counts → Guard → Type 0
GuardKept k always = Unit {0}
GuardKept k (compares v g x) = (v < k.vars) × (in_range x ≡ true)

abbrev pub SlotKept : Counts → Option ℕ → Type 0
SlotKept k None = Unit {0}
SlotKept k (Some p) = p < k.states

abbrev pub ActKept : Counts → Act → Type 0
ActKept k (set_to v x) = (v < k.vars) × (in_range x ≡ true)
ActKept k (add_to v x) = (v < k.vars) × (in_range x ≡ true)
ActKept k (take_to v) = v < k.vars
ActKept k (send e x) = (1 ≤ e) × (e ≤ k.events) × (in_range x ≡ true)
ActKept k (tell x) = in_range x ≡ true

-- an instruction that so many of its block follow
abbrev pub InstrKept : Counts → ℕ → Instr → Type 0
InstrKept k left (go_in s) = s < k.states
InstrKept k left (go_out s p) = (s < k.states) × SlotKept k p
InstrKept k left (skip_out s n) = (s < k.states) × (n ≤ left)
InstrKept k left (skip_empty s n) = (s < k.states) × (n ≤ left)
InstrKept k left (skip_full s n) = (s < k.states) × (n ≤ left)
InstrKept k left (skip_not s d n) = (s < k.states) × (d < k.states) × (n ≤ left)
InstrKept k left (does x) = ActKept k x

pub record HeadKept (k : Counts) (h : Head) : Type 0 where
  pub transition : h.transition < TRANSITIONS
  pub source : h.source < k.states
  pub trigger : h.trigger ≤ k.events
  pub guard : GuardKept k h.guard
  pub first : h.first < k.states
  pub last : h.last < k.states
  pub ordered : h.first ≤ h.last

-- ---- numbers

pub count_named : (least most : ℕ) (z : ℤ) → count_fits least most z ≡ true → (least ≤ ref z) × (ref z ≤ most)
count_named least most (pos n) e =
    (leb-true least n (and_left (leb least n) (leb n most) e), leb-true n most (and_right (leb least n) (leb n most) e))
count_named least most (negsuc n) e = absurd (false≢true e)

pub count_kept : (least most : ℕ) (z : ℤ) → count_fits least most z ≡ true → least ≤ size_by most z
unfolding size_by
count_kept least most z e =
    let h = count_named least most z e in
    rw (le-leb (ref z) most h.1) h.0

order_named : (n : ℕ) (a b : ℤ) → n < NOWHERE → ref a < n → ref b < n → le_z a b ≡ true → ref a ≤ ref b
order_named n (pos a) (pos b) h p q e = leb-true a b e
order_named n (pos a) (negsuc b) h p q e = absurd (false≢true e)
order_named n (negsuc a) b h p q e = absurd (omega arith)

-- ---- a head

module _ (k : Counts) where
  guard_named : (v g x : ℤ) → ref v < k.vars → in_range x ≡ true → GuardKept k (head_guard_by v g x)
  unfolding head_guard_by
  guard_named v g x p q = go (eq_z g (pos 1)) (eq_z g (pos 2)) (eq_z g (pos 3))
    where
      go : (a b c : Bool)
          → GuardKept k (cond a (compares (ref v) equal x) (cond b (compares (ref v) less x) (cond c (compares (ref v) more x) always)))
      go true b c = (p, q)
      go false true c = (p, q)
      go false false true = (p, q)
      go false false false = tt

  guard_none : (v g x : ℤ) → g ≡ pos 0 → GuardKept k (head_guard_by v g x)
  unfolding head_guard_by
  guard_none v g x e = rw e tt

  guard_kept : (v g x : ℤ) → head_guard_fits k v g x ≡ true → GuardKept k (head_guard_by v g x)
  unfolding head_guard_fits
  guard_kept v g x e =
      go (or_cases (eq_z v (negsuc 0) && (eq_z g (pos 0) && eq_z x (pos 0))) (one_of k.vars v && (count_fits 1 3 g && in_range x)) e)
    where
      go : (eq_z v (negsuc 0) && (eq_z g (pos 0) && eq_z x (pos 0)) ≡ true) ⊎ (one_of k.vars v && (count_fits 1 3 g && in_range x) ≡ true)
          → GuardKept k (head_guard_by v g x)
      go (inl f) =
          guard_none v g x
          (eq_z_true g (pos 0) (and_left (eq_z g (pos 0)) (eq_z x (pos 0))
          (and_right (eq_z v (negsuc 0)) (eq_z g (pos 0) && eq_z x (pos 0)) f)))
      go (inr f) =
          guard_named v g x (ltb-true (ref v) k.vars (and_left (one_of k.vars v) (count_fits 1 3 g && in_range x) f))
          (and_right (count_fits 1 3 g) (in_range x) (and_right (one_of k.vars v) (count_fits 1 3 g && in_range x) f))

  pub head_kept : (row : List ℤ) → k.states ≤ STATES → head_fits k row ≡ true → HeadKept k (head_by row)
  unfolding head_fits span_fits head_by
  head_kept row l e =
      let t = one_of TRANSITIONS (num row 0) in
      let u = count_fits 0 k.events (num row 2) in
      let s = one_of k.states (num row 1) in
      let a = one_of k.states (num row 6) in
      let b = one_of k.states (num row 7) in
      let o = le_z (num row 6) (num row 7) in
      let g = head_guard_fits k (num row 3) (num row 4) (num row 5) in
      let e₁ = and_right t (u && ((s && (a && (b && o))) && g)) e in
      let e₂ = and_right u ((s && (a && (b && o))) && g) e₁ in
      let e₃ = and_left (s && (a && (b && o))) g e₂ in
      let e₄ = and_right s (a && (b && o)) e₃ in
      let e₅ = and_right a (b && o) e₄ in
      let f : ref (num row 6) < k.states = ltb-true (ref (num row 6)) k.states (and_left a (b && o) e₄) in
      let m : ref (num row 7) < k.states = ltb-true (ref (num row 7)) k.states (and_left b o e₅) in
      record {
        transition = ltb-true (ref (num row 0)) TRANSITIONS (and_left t (u && ((s && (a && (b && o))) && g)) e);
        source = ltb-true (ref (num row 1)) k.states (and_left s (a && (b && o)) e₃);
        trigger = (count_named 0 k.events (num row 2) (and_left u ((s && (a && (b && o))) && g) e₁)).1;
        guard = guard_kept (num row 3) (num row 4) (num row 5) (and_right (s && (a && (b && o))) g e₂);
        first = f;
        last = m;
        ordered = order_named k.states (num row 6) (num row 7) (omega arith) f m (and_right b o e₅);
      }

-- ---- an instruction, by its code

module _ (k : Counts) (left : ℕ) where
  state_kept : (z : ℤ) → operand_fits k left a_state z ≡ true → ref z < k.states
  unfolding operand_fits
  state_kept z e = ltb-true (ref z) k.states e

  parent_kept : (z : ℤ) → operand_fits k left a_parent z ≡ true → SlotKept k (place_of z)
  unfolding operand_fits
  parent_kept (pos p) e = ltb-true p k.states e
  parent_kept (negsuc p) e = tt

  variable_kept : (z : ℤ) → operand_fits k left a_variable z ≡ true → ref z < k.vars
  unfolding operand_fits
  variable_kept z e = ltb-true (ref z) k.vars e

  event_kept : (z : ℤ) → operand_fits k left an_event z ≡ true → (1 ≤ ref z) × (ref z ≤ k.events)
  unfolding operand_fits
  event_kept z e = count_named 1 k.events z e

  constant_kept : (z : ℤ) → operand_fits k left a_constant z ≡ true → in_range z ≡ true
  unfolding operand_fits
  constant_kept z e = e

  skip_kept : (z : ℤ) → operand_fits k left a_skip z ≡ true → ref z ≤ left
  unfolding operand_fits
  skip_kept z e = (count_named 0 left z e).1

  -- the three numbers of a form
  abbrev fit : Shape → ℤ → ℤ → ℤ → Bool
  fit no_shape x y z = false
  fit (shape f g h) x y z = operand_fits k left f x && (operand_fits k left g y && operand_fits k left h z)

  fit_row : (f : Shape) (l : List ℤ) → shape_fits k left f l ≡ fit f (num l 1) (num l 2) (num l 3)
  unfolding shape_fits
  fit_row no_shape l = refl
  fit_row (shape f g h) l = refl

  three : (f g h : Operand) (x y z : ℤ) → fit (shape f g h) x y z ≡ true
      → (operand_fits k left f x ≡ true) × (operand_fits k left g y ≡ true) × (operand_fits k left h z ≡ true)
  three f g h x y z e =
      let r = and_right (operand_fits k left f x) (operand_fits k left g y && operand_fits k left h z) e in (
        and_left (operand_fits k left f x) (operand_fits k left g y && operand_fits k left h z) e,
        and_left (operand_fits k left g y) (operand_fits k left h z) r,
        and_right (operand_fits k left g y) (operand_fits k left h z) r,
      )

  code_kept : (c x y z : ℤ) → fit (get_or SHAPES (ref c) no_shape) x y z ≡ true → InstrKept k left (instr_of c x y z)
  unfolding instr_of instr_act_by
  code_kept (pos zero) x y z e = absurd (false≢true e)
  code_kept (pos (suc zero)) x y z e = state_kept x (three a_state unused unused x y z e).0
  code_kept (pos (suc (suc zero))) x y z e = let t = three a_state a_parent unused x y z e in (state_kept x t.0, parent_kept y t.1)
  code_kept (pos (suc (suc (suc zero)))) x y z e =
      let t = three a_state a_skip unused x y z e in
      (state_kept x t.0, skip_kept y t.1)
  code_kept (pos (suc (suc (suc (suc zero))))) x y z e =
      let t = three a_state a_skip unused x y z e in
      (state_kept x t.0, skip_kept y t.1)
  code_kept (pos (suc (suc (suc (suc (suc zero)))))) x y z e =
      let t = three a_state a_skip unused x y z e in
      (state_kept x t.0, skip_kept y t.1)
  code_kept (pos (suc (suc (suc (suc (suc (suc zero))))))) x y z e =
      let t = three a_state a_state a_skip x y z e in
      (state_kept x t.0, state_kept y t.1, skip_kept z t.2)
  code_kept (pos (suc (suc (suc (suc (suc (suc (suc zero)))))))) x y z e =
      let t = three a_variable a_constant unused x y z e in
      (variable_kept x t.0, constant_kept y t.1)
  code_kept (pos (suc (suc (suc (suc (suc (suc (suc (suc zero))))))))) x y z e =
      let t = three a_variable a_constant unused x y z e in
      (variable_kept x t.0, constant_kept y t.1)
  code_kept (pos (suc (suc (suc (suc (suc (suc (suc (suc (suc zero)))))))))) x y z e =
      variable_kept x (three a_variable unused unused x y z e).0
  code_kept (pos (suc (suc (suc (suc (suc (suc (suc (suc (suc (suc zero))))))))))) x y z e =
      let t = three an_event a_constant unused x y z e in
      let v = event_kept x t.0 in
      (v.0, v.1, constant_kept y t.1)
  code_kept (pos (suc (suc (suc (suc (suc (suc (suc (suc (suc (suc (suc zero)))))))))))) x y z e =
      constant_kept x (three a_constant unused unused x y z e).0
  code_kept (pos (suc (suc (suc (suc (suc (suc (suc (suc (suc (suc (suc (suc n))))))))))))) x y z e = absurd (false≢true e)
  code_kept (negsuc n) x y z e = absurd (false≢true e)

  -- the instruction that a list of numbers begins with
  pub instr_kept : (l : List ℤ) → instr_fits k left l ≡ true → InstrKept k left (instr_by (take INSTR_ROW l))
  unfolding instr_fits instr_by
  instr_kept l e =
      rw (
        get_or-take INSTR_ROW l 0 (pos 0) (omega arith),
        get_or-take INSTR_ROW l 1 (pos 0) (omega arith),
        get_or-take INSTR_ROW l 2 (pos 0) (omega arith),
        get_or-take INSTR_ROW l 3 (pos 0) (omega arith),
      )
      (code_kept (num l 0) (num l 1) (num l 2) (num l 3) (sym (fit_row (get_or SHAPES (ref (num l 0)) no_shape) l) ∙ e))
