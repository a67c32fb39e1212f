-- The slots of a started state, one at a time: empty, or at an o state a child of it that leads on. Assumes nothing.
use Rattle.std.specs.Prelude.{Option, None, Some}
use Rattle.std.specs.Option.{is_some, option_eq}
use mathlib.Core.Path.{◌≡◌, refl, sym, ap, ◌∙◌}
use Prim.Native.Nat.{ℕ, zero, suc, ◌+◌, ◌-◌, ◌≤◌, ◌<◌}
use mathlib.Core.Bool.{Bool, true, false, false≢true}
use mathlib.Core.List.{List, [], ◌∷◌}
use native.Mathlib.Omega.{arith}
use borrow.Author.Tests.{lt-ltb, le-ltb}
use lib.Dec.{eqb}
use lib.IntN.{ℤ, pos, negsuc}
use lib.ListN.{length, get_or, drop}
use Rattle.sizes.specs.Sizes.{STATES}
use Rattle.numbers.specs.Equal.{eq_z}
use Rattle.numbers.specs.Place.{place_of}
use Rattle.meaning.specs.declared.State.{State}
use Rattle.meaning.specs.declared.chart.Kind.{Kind}
use Rattle.meaning.specs.declared.chart.Kind.TheVariants.{O as kind_o, A as kind_a, B as kind_b}
use Rattle.meaning.specs.Lists.{every, from}
use Rattle.meaning.specs.Chart.{Chart}
use Rattle.meaning.specs.Tree.{kind_of, is_o, is_child}
use Rattle.meaning.specs.Widget.{slot, is_filled}
use Rattle.numbers.proofs.Laws.{eq_z_true}
use Rattle.queue_calls.specs.Parts.{leads_if, slot_if, slots_if, is_at}
use Rattle.widget.proofs.Every.{every_more, every_no, upto_more, upto_done}

-- what stands at a place of a list does not depend on what would stand past its end
pub get_d_any : {A : Type 0} (l : List A) (i : ℕ) (d e : A) → i < length l → get_or l i d ≡ get_or l i e
get_d_any [] i d e h = absurd (omega arith)
get_d_any (x ∷ xs) zero d e h = refl
get_d_any (x ∷ xs) (suc i) d e h = get_d_any xs i d e (omega arith)

-- what std's tests of an Option say
pub filled_is : (p : Option ℕ) → is_some p ≡ is_filled p
unfolding is_filled
filled_is None = refl
filled_is (Some n) = refl

pub at_is : (d : ℕ) (p : Option ℕ) → option_eq eqb p (Some d) ≡ is_at d p
unfolding is_at
at_is d None = refl
at_is d (Some e) = refl

-- a slot of the lent array
pub slot_read : (u : State) {slots : List ℤ} → u.slots ≡ slots → (d : ℕ) → d < length slots → {b : Bool}
    → b ≡ is_filled (place_of (get_or slots d (pos 0))) → is_filled (slot u d) ≡ b
unfolding slot
slot_read u {slots} e d h f =
    ap (λ l. is_filled (place_of (get_or l d (negsuc 0)))) e ∙ ap (λ x. is_filled (place_of x)) (get_d_any slots d (negsuc 0) (pos 0) h) ∙ sym f

module _ (whole : Bool) (c : Chart) (u : State) (d : ℕ) {k : Kind} (e : k ≡ kind_of c d) where
  pub leads_o : {b : Bool} → k ≡ kind_o → b ≡ is_filled (slot u d) → b ≡ leads_if whole u (kind_of c d) d
  unfolding leads_if
  leads_o m f = rw (sym e ∙ m) f

  pub leads_a : k ≡ kind_a → whole ≡ leads_if whole u (kind_of c d) d
  unfolding leads_if
  leads_a m = rw (sym e ∙ m)

  pub leads_b : k ≡ kind_b → true ≡ leads_if whole u (kind_of c d) d
  unfolding leads_if
  leads_b m = rw (sym e ∙ m)

-- ---- one slot

pub place_at : (x : ℤ) {p : Option ℕ} (d : ℕ) → p ≡ place_of x → p ≡ Some d → x ≡ pos d
place_at (pos n) d q r = let z : n ≡ d = cc in ap pos z
place_at (negsuc n) d q r = let z : ◌≡◌ {A = ℕ} 0 1 = cc in absurd (omega arith)

empty_fits : (whole : Bool) (c : Chart) (u : State) (s : ℕ) (x : ℤ) → place_of x ≡ None → eq_z x (negsuc 0) ≡ slot_if whole c u s x
unfolding slot_if
empty_fits whole c u s (pos n) e = let z : ◌≡◌ {A = ℕ} 0 1 = cc in absurd (omega arith)
empty_fits whole c u s (negsuc n) e = refl

module _ (whole : Bool) (c : Chart) (u : State) (s : ℕ) (x : ℤ) where
  pub slot_empty : {p : Option ℕ} → p ≡ place_of x → p ≡ None → eq_z x (negsuc 0) ≡ slot_if whole c u s x
  slot_empty q r = empty_fits whole c u s x (sym q ∙ r)

  module _ {d : ℕ} (e : x ≡ pos d) where
    pub slot_nowhere : {n : ℕ} → n ≡ length c.states → n ≤ d → false ≡ slot_if whole c u s x
    unfolding slot_if
    slot_nowhere l h = rw (e, le-ltb d (length c.states) (omega arith))

    module _ {n : ℕ} (l : n ≡ length c.states) (h : d < n) where
      pub slot_not_o : is_o (kind_of c s) ≡ false → false ≡ slot_if whole c u s x
      unfolding slot_if
      slot_not_o k = rw (e, lt-ltb d (length c.states) (omega arith), k)

      pub slot_no_child : is_o (kind_of c s) ≡ true → is_child c s d ≡ false → false ≡ slot_if whole c u s x
      unfolding slot_if
      slot_no_child k m = rw (e, lt-ltb d (length c.states) (omega arith), k, m)

      pub slot_child : {b : Bool} → is_o (kind_of c s) ≡ true → is_child c s d ≡ true → b ≡ leads_if whole u (kind_of c d) d
          → b ≡ slot_if whole c u s x
      unfolding slot_if
      slot_child k m f = rw (e, lt-ltb d (length c.states) (omega arith), k, m) f

-- ---- every slot

abbrev pub slot_right : Bool → Chart → State → ℕ → Bool
slot_right whole c u s = slot_if whole c u s (get_or u.slots s (negsuc 0))

pub slot_tested : (whole : Bool) (c : Chart) (u : State) {slots : List ℤ} → u.slots ≡ slots → (s : ℕ) → s < length slots → {b : Bool}
    → b ≡ slot_if whole c u s (get_or slots s (pos 0)) → slot_right whole c u s ≡ b
slot_tested whole c u {slots} e s h f =
    ap (λ l. slot_if whole c u s (get_or l s (negsuc 0))) e ∙ ap (λ x. slot_if whole c u s x) (get_d_any slots s (negsuc 0) (pos 0) h) ∙ sym f

pub slots_fitted : (whole : Bool) (c : Chart) (u : State) {b : Bool} → b ≡ every (slot_right whole c u) (from 0 STATES)
    → b ≡ slots_if whole c u
unfolding slots_if
slots_fitted whole c u e = e

-- ---- the slots from a place on, where all of them are empty

empty_right : (whole : Bool) (c : Chart) (u : State) (s : ℕ) → eq_z (negsuc 0) (get_or u.slots s (negsuc 0)) ≡ true
    → slot_right whole c u s ≡ true
empty_right whole c u s e =
    ap (slot_if whole c u s) (sym (eq_z_true (negsuc 0) (get_or u.slots s (negsuc 0)) e)) ∙ sym (empty_fits whole c u s (negsuc 0) refl)

rest_right : (whole : Bool) (c : Chart) (u : State) → length u.slots ≡ STATES → (k s : ℕ) → k + s ≡ STATES
    → every (eq_z (negsuc 0)) (drop s u.slots) ≡ true → every (slot_right whole c u) (drop s (from 0 STATES)) ≡ true
rest_right whole c u l zero s m e = sym (upto_done (slot_right whole c u) STATES s refl (omega arith))
rest_right whole c u l (suc k) s m e =
    go (rest_right whole c u l k (s + 1) (omega arith)) (eq_z (negsuc 0) (get_or u.slots s (negsuc 0))) refl
  where
    go : (every (eq_z (negsuc 0)) (drop (s + 1) u.slots) ≡ true → every (slot_right whole c u) (drop (s + 1) (from 0 STATES)) ≡ true)
        → (b : Bool) → eq_z (negsuc 0) (get_or u.slots s (negsuc 0)) ≡ b → every (slot_right whole c u) (drop s (from 0 STATES)) ≡ true
    go f true t = sym (upto_more (slot_right whole c u) STATES s refl (omega arith) (empty_right whole c u s t))
        ∙ f (every_more (eq_z (negsuc 0)) u.slots s (negsuc 0) e (omega arith) t)
    go f false t = absurd (false≢true (every_no (eq_z (negsuc 0)) u.slots s (negsuc 0) e (omega arith) t))

pub rest_fitted : (whole : Bool) (c : Chart) (u : State) {slots : List ℤ} {end : ℕ} → u.slots ≡ slots → length slots ≡ STATES
    → end ≤ STATES
    → every (eq_z (negsuc 0)) (drop end slots) ≡ true → (s : ℕ) → s ≡ end → every (slot_right whole c u) (drop s (from 0 STATES)) ≡ true
rest_fitted whole c u {slots} {end} e l m r s i =
    rest_right whole c u (ap length e ∙ l) (STATES - s) s (omega arith)
    (ap (λ n. every (eq_z (negsuc 0)) (drop n u.slots)) i ∙ ap (λ x. every (eq_z (negsuc 0)) (drop end x)) e ∙ r)
