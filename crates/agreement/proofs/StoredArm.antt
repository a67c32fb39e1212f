-- The stored arm behind the owner of a history does what going down by the slots does (01, "History"), where the owner is in, nothing
-- below it is, and filled slots lead to filled ones: so the restore never gives 14, which the machine cannot. Assumes nothing.
use Rattle.std.specs.Prelude.{Option, None, Some}
use mathlib.Core.Path.{◌∙◌, ◌≡◌, ap, fun_ext, refl, subst, sym}
use Prim.Native.Nat.{◌+◌, ◌-◌, ◌<◌, ◌≤◌, suc, ℕ}
use native.Mathlib.Omega.{arith}
use mathlib.Core.Bool.{Bool, ◌&&◌, false, true}
use mathlib.Core.List.{List, [], ◌∷◌, map}
use lib.ListN.{length}
use lib.IntN.{ℤ}
use Rattle.agreement.proofs.DefaultArm.{SameSlots, visit_slots}
use Rattle.agreement.proofs.Scan.{Upto, scan, scan_all, stored_arm_does}
use Rattle.invariants.proofs.Entering.{Restorable, below_fine, filled_not_empty}
use Rattle.invariants.proofs.Keeps.{holds_of}
use Rattle.invariants.proofs.Restoring.{owner_goes}
use Rattle.invariants.proofs.Slots.{Lead, slot_at, slot_child}
use Rattle.invariants.specs.Good.{SlotsOk}
use Rattle.laws.proofs.Descent.{Reached}
use Rattle.laws.proofs.Lists.{each_mapped}
use Rattle.laws.specs.Facts.{Each, Ordered, Under, child, deeper, none_left, one_more}
use Rattle.laws.proofs.Preorder.{Run, sub_kept, sub_run}
use Rattle.laws.proofs.Reach.{reach, reached, visit_by, visit_of}
use Rattle.laws.proofs.Sound.{SoundChart}
use Rattle.laws.proofs.Steps.{Holds, bind_cong_where, each_map}
use Rattle.laws.proofs.Tree.{has_under, under_lt}
use Rattle.laws.proofs.Ways.{slots_pass}
use Rattle.meaning.specs.Chart.{Chart}
use Rattle.meaning.specs.Compile.{stored_arm}
use Rattle.meaning.specs.Effects.{enter}
use Rattle.meaning.specs.Entry.{all_below, by_slots, plain, revisit, slot_way, state_of, visit}
use Rattle.meaning.specs.Lists.{from, has, keep}
use Rattle.meaning.specs.Machine.{go_on, passing, run_code}
use Rattle.meaning.specs.Steps.{Res, ◌then◌, bind, each, look, ok, refuse, when}
use Rattle.meaning.specs.Tree.{ancestors, descendants, is_child, is_o, kind_of, parent_of}
use Rattle.meaning.specs.Widget.{Ctx, is_active, is_empty, slot}
use Rattle.meaning.specs.declared.State.{State}
use Rattle.meaning.specs.declared.chart.Kind.{Kind}
use Rattle.meaning.specs.declared.chart.Kind.TheVariants.{A as kind_a, B as kind_b, O as kind_o}

-- where a restore of b begins: its owner is in, nothing below it is, and filled slots lead to filled ones
pub record RestoreBegins (c : Chart) (b : ℕ) (u : State) : Type 0 where
  pub inside : b < length c.states
  pub kind : kind_of c b ≡ kind_o
  pub wide : length c.states ≤ length u.active
  pub slots : SlotsOk c u.slots
  pub lead : Lead c u.slots
  pub owner : is_active u b ≡ true
  pub clear : (x : ℕ) → Under c b x → is_active u x ≡ false

-- ---- going down by the slots visits plainly

plain_by : (k : Kind) (z : Option ℕ) (p x : ℕ) → visit_by k (slot_way z) p x ≡ plain x
unfolding visit_by slot_way
plain_by kind_o None p x = refl
plain_by kind_o (Some d) p x = refl
plain_by kind_a z p x = refl
plain_by kind_b z p x = refl

plain_visit : (c : Chart) (u : State) (x : ℕ) → visit_of c (by_slots u) x ≡ plain x
unfolding visit_of by_slots
plain_visit c u x = plain_by (kind_of c (parent_of c x)) (slot u (parent_of c x)) (parent_of c x) x

-- ---- the test for 14 passes

bind_passes : {A B : Type 0} (P : A → Type 0) (r : Res A) (f : A → Res A) (g : A → Res B) → Holds r P → ((x : A) → P x → f x ≡ ok x)
    → bind (bind r f) g ≡ bind r g
unfolding bind
bind_passes P (ok x) f g h n = ap (λ r. bind r g) (n x h)
bind_passes P (refuse e) f g h n = refl

module _ (c : Chart) (r : SoundChart c) (sl : List ℤ) (lead : Lead c sl) where
  passes : (d : ℕ) (j : Ctx) → Restorable c sl d → SameSlots sl j.state
      → when (is_o (kind_of c d) && is_empty (slot j.state d)) (λ _. refuse 14) j ≡ ok j
  unfolding slot when is_o is_empty
  passes d j f e = go (kind_of c d) refl (slot_at j.state.slots d) refl
    where
      go : (x : Kind) → kind_of c d ≡ x → (z : Option ℕ) → slot_at j.state.slots d ≡ z
          → when (is_o x && is_empty z) (λ _. refuse 14) j ≡ ok j
      go kind_o q None y = absurd (filled_not_empty c r sl lead (slot_at sl d) (f q) (ap (λ w. slot_at w d) (sym e) ∙ y))
      go kind_o q (Some x) y = refl
      go kind_a q z y = refl
      go kind_b q z y = refl

  -- so a restore that meets no empty slot only enters
  revisit_all : (a : ℤ) (xs : List ℕ) → Each (Restorable c sl) xs → (k : Ctx) → SameSlots sl k.state
      → each (λ x. revisit c a (plain x)) xs k ≡ each (enter c a) xs k
  unfolding each revisit visit ◌then◌ look state_of
  revisit_all a [] none_left k e = refl
  revisit_all a (d ∷ xs) (one_more f fs) k e =
      bind_passes (λ j. SameSlots sl j.state) (enter c a d k) _ (each (λ x. revisit c a (plain x)) xs) kept (λ j q. passes d j f q)
      ∙ bind_cong_where (λ j. SameSlots sl j.state) (enter c a d k) _ _ kept (λ j q. revisit_all a xs fs j q)
    where
      kept : Holds (enter c a d k) (λ j. SameSlots sl j.state)
      kept = holds_of (λ j. SameSlots sl j.state) (enter c a d k) (visit_slots sl c a (plain d) k e)

-- ---- the arm

under_parent : (c : Chart) → Ordered c → (b x : ℕ) → Under c b (suc x) → b ≤ parent_of c (suc x)
under_parent c o b x (child q) = omega arith
under_parent c o b x (deeper v) = omega (arith, under_lt c o v)

module _ (c : Chart) (r : SoundChart c) (a : ℤ) (b : ℕ) (k : Ctx) (y : RestoreBegins c b k.state) where
  abbrev u : State
  u = k.state

  abbrev reaches : ℕ → Bool
  reaches x = reach c (by_slots u) b x x

  fits : (p d : ℕ) → slot u p ≡ Some d → (is_child c p d ≡ true) × (d < length c.states)
  unfolding slot
  fits p d e = let q = slot_child c u.slots y.slots p d e in (q.1, q.2)

  -- the itinerary by the slots
  stored_visits : all_below c (by_slots u) b ≡ map plain (keep reaches (descendants c b))
  stored_visits = slots_pass c r u b fits y.inside ∙ ap (λ f. map f (keep reaches (descendants c b))) (fun_ext (plain_visit c u))

  stored_fine : (d : ℕ) → slot u b ≡ Some d → Each (Restorable c u.slots) (keep reaches (descendants c b))
  unfolding all_below by_slots slot state_of
  stored_fine d e = each_mapped (λ v. Restorable c u.slots (state_of v)) plain (keep reaches (descendants c b))
      (subst (Each (λ v. Restorable c u.slots (state_of v))) stored_visits
      (below_fine c r u.slots y.lead (length c.states) b
      (owner_goes c r u.slots y.slots y.lead b y.inside y.kind d e)))

  slots_reached : Reached c (λ s. slot_way (slot_at u.slots s)) b reaches
  unfolding by_slots slot
  slots_reached = reached c (by_slots u) r.ordered b

  begins : (n : ℕ) → suc b + n ≡ length c.states → (m : Run (λ x. has b (ancestors c x)) (suc b) n)
      → Upto u.slots reaches b (suc b) (suc b + m.k) u
  begins n e m = record {
    slots = refl;
    wide = omega (arith, m.fits, y.wide);
    done = λ x l g. let q : x ≡ b = omega arith in rw q (y.owner ∙ sym slots_reached.top);
    rest = λ x l g. y.clear x (has_under c b x (m.inside x l g));
  }

  scan_by : (n : ℕ) → suc b + n ≡ length c.states → (m : Run (λ x. has b (ancestors c x)) (suc b) n)
      → descendants c b ≡ from (suc b) m.k
      → each (scan c a) (descendants c b) k ≡ each (enter c a) (keep reaches (descendants c b)) k
  scan_by n e m range =
      ap (λ l. each (scan c a) l k) range
      ∙ scan_all c a u.slots reaches b slots_reached m.k b k
      (λ x l z. under (has_under c b (suc x) (m.inside (suc x) l z)))
      (begins n e m)
      ∙ ap (λ l. each (enter c a) (keep reaches l) k) (sym range)
    where
      under : {x : ℕ} → Under c b (suc x) → Under c b (suc x) × (b ≤ parent_of c (suc x)) × (parent_of c (suc x) ≤ x)
      under {x} v = (v, under_parent c r.ordered b x v, r.ordered.falls x)

  scan_enters : each (scan c a) (descendants c b) k ≡ each (enter c a) (keep reaches (descendants c b)) k
  scan_enters =
      let n : ℕ = length c.states - suc b in
      let g : suc b + n ≡ length c.states = omega (arith, y.inside) in
      scan_by n g (sub_run c r.ordered b n g) (sub_kept c r.ordered b n g)

  -- the pass does what going down by the slots does
  pub scan_restores : (d : ℕ) → slot u b ≡ Some d → each (scan c a) (descendants c b) k ≡ each (revisit c a) (all_below c (by_slots u) b) k
  scan_restores d e =
      scan_enters
      ∙ sym (revisit_all c r u.slots y.lead a (keep reaches (descendants c b)) (stored_fine d e) k refl)
      ∙ sym (each_map (revisit c a) plain (keep reaches (descendants c b)) k)
      ∙ ap (λ l. each (revisit c a) l k) (sym stored_visits)

  pub stored_arm_agrees : (d : ℕ) → slot u b ≡ Some d
      → run_code c.vars a (stored_arm c b) (passing 0 k) ≡ go_on (each (revisit c a) (all_below c (by_slots u) b) k)
  stored_arm_agrees d e = stored_arm_does c a b k ∙ ap go_on (scan_restores d e)
