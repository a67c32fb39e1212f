-- Going down child by child, and through the numbers below a state: what is still to be put, over any way and any code of a visit.
-- Assumes nothing.
use mathlib.Core.Path.{◌≡◌, sym, ap, ◌∙◌}
use Prim.Native.Nat.{ℕ, suc, ◌+◌, ◌-◌, ◌≤◌, ◌<◌}
use mathlib.Core.Bool.{true, false}
use mathlib.Core.List.{List, [], ◌∷◌, ◌++◌, reverse}
use native.Mathlib.Omega.{arith}
use lib.ListN.{length}
use lib.IntN.{ℤ}
use Rattle.laws.proofs.Ways.{descendants_range}
use Rattle.laws.proofs.Sound.{SoundChart}
use Rattle.meaning.specs.Chart.{Chart}
use Rattle.meaning.specs.declared.plan.Instr.{Instr}
use Rattle.meaning.specs.Lists.{concat_map, from, keep}
use Rattle.meaning.specs.Tree.{kind_of, is_child, descendants}
use Rattle.meaning.specs.Entry.{Visit, Way, below}
use Rattle.tree.specs.Courses.{defaulting, visit_as}
use Rattle.blocks.specs.Kids.{KidsLeft}
use Rattle.leave_enter.proofs.Descending.{range_none, range_next, range_skip, range_take}
use Rattle.leave_enter.proofs.Falling.{falls_by}
use Rattle.tree.proofs.On.{end_within}
use Rattle.emitter.specs.Pen.{pen, emits, Room}
use Rattle.emitter.proofs.Laws.{concat_map_append, owes_on, owes_none, owes_room, same_size}

-- ---- child by child

module _ (f : Visit → List Instr) (c : Chart) (way : ℕ → Way) (next : Way) (s left end : ℕ) where
  -- a child that is entered, and what is entered below it
  abbrev child : ℕ → List Visit
  child d = visit_as (defaulting (kind_of c s) next) s d ∷ below c way (left - 1) d

  -- what the children from the number i on come to
  unfoldable pub due : ℕ → List Instr
  due i = concat_map f (concat_map child (keep (is_child c s) (from i (end - i))))

  due_none : (i : ℕ) → end ≤ i → due i ≡ []
  unfolding due concat_map
  due_none i l = ap (concat_map f) (range_none child (is_child c s) i end l)

  due_skip : (i : ℕ) → i < end → is_child c s i ≡ false → due i ≡ due (i + 1)
  unfolding due
  due_skip i l e = ap (concat_map f) (range_skip child (is_child c s) i end l e)

  due_take : (i : ℕ) → i < end → is_child c s i ≡ true
      → due i ≡ f (visit_as (defaulting (kind_of c s) next) s i) ++ (concat_map f (below c way (left - 1) i) ++ due (i + 1))
  unfolding due concat_map
  due_take i l e =
      ap (concat_map f) (range_take child (is_child c s) i end l e)
      ∙ ap (λ xs. f (visit_as (defaulting (kind_of c s) next) s i) ++ xs)
      (concat_map_append f (below c way (left - 1) i) (concat_map child (keep (is_child c s) (from (i + 1) (end - (i + 1))))))

pub record Going (f : Visit → List Instr)
    (c : Chart) (way : ℕ → Way) (next : Way) (s left first end : ℕ) (l : List ℤ) (at i : ℕ) (l₁ : List ℤ) (p : ℕ) : Type 0 where
  pub since : first ≤ i
  pub owes : emits (due f c way next s left end i) (pen l₁ p) ≡ emits (concat_map f (below c way left s)) (pen l at)

module _ (f : Visit → List Instr) (c : Chart) (way : ℕ → Way) (next : Way) (s left first end : ℕ) (l : List ℤ) (at : ℕ) where
  pub going_begin : way s ≡ next → KidsLeft c next s left first end → Going f c way next s left first end l at first l at
  unfolding due
  going_begin e k = record { since = omega arith; owes = ap (λ xs. emits (concat_map f xs) (pen l at)) (sym (k.goes way e)) }

  module _ {i : ℕ} {l₁ : List ℤ} {p : ℕ} (h : Going f c way next s left first end l at i l₁ p) where
    pub going_end : end ≤ i → pen l₁ p ≡ emits (concat_map f (below c way left s)) (pen l at)
    going_end n = owes_none (pen l₁ p) (ap (λ xs. emits xs (pen l₁ p)) (sym (due_none f c way next s left end i n)) ∙ h.owes)

    pub going_size : length l₁ ≡ length l
    going_size = same_size _ _ l l₁ at p h.owes

    module _ (n : i < end) where
      pub going_skip : is_child c s i ≡ false → Going f c way next s left first end l at (i + 1) l₁ p
      going_skip e = record {
        since = omega (arith, h.since);
        owes = ap (λ xs. emits xs (pen l₁ p)) (sym (due_skip f c way next s left end i n e)) ∙ h.owes;
      }

      module _ (e : is_child c s i ≡ true) where
        visits : emits (f (visit_as (defaulting (kind_of c s) next) s i)
            ++ (concat_map f (below c way (left - 1) i) ++ due f c way next s left end (i + 1))) (pen l₁ p)
            ≡ emits (concat_map f (below c way left s)) (pen l at)
        visits = ap (λ xs. emits xs (pen l₁ p)) (sym (due_take f c way next s left end i n e)) ∙ h.owes

        pub going_room : Room (concat_map f (below c way left s)) at → Room (f (visit_as (defaulting (kind_of c s) next) s i)) p
        going_room = owes_room (f (visit_as (defaulting (kind_of c s) next) s i)) (concat_map f (below c way (left - 1) i)
            ++ due f c way next s left end (i + 1)) (concat_map f (below c way left s)) l l₁ at p visits

        module _ {l₂ : List ℤ} {q : ℕ} (v : pen l₂ q ≡ emits (f (visit_as (defaulting (kind_of c s) next) s i)) (pen l₁ p)) where
          deeper : emits (concat_map f (below c way (left - 1) i) ++ due f c way next s left end (i + 1)) (pen l₂ q)
              ≡ emits (concat_map f (below c way left s)) (pen l at)
          deeper = owes_on _ _ (pen l₁ p) visits v

          pub going_room_below : Room (concat_map f (below c way left s)) at → Room (concat_map f (below c way (left - 1) i)) q
          going_room_below = owes_room (concat_map f (below c way (left - 1) i))
              (due f c way next s left end (i + 1)) (concat_map f (below c way left s)) l l₂ at q deeper

          pub going_on : {l₃ : List ℤ} {r : ℕ} → pen l₃ r ≡ emits (concat_map f (below c way (left - 1) i)) (pen l₂ q)
              → Going f c way next s left first end l at (i + 1) l₃ r
          going_on w = record { since = omega (arith, h.since); owes = owes_on _ _ (pen l₂ q) deeper w }

-- ---- the numbers below a state, rising and falling

below_as : (c : Chart) → SoundChart c → (s : ℕ)
    → s < length c.states → (end : ℕ) → end ≡ suc s + length (descendants c s) → descendants c s ≡ from (suc s) (end - suc s)
below_as c h s l end e = let n : length (descendants c s) ≡ end - suc s = omega arith in descendants_range c h s l ∙ ap (from (suc s)) n

module _ (f : ℕ → List Instr) (l : List ℤ) (at : ℕ) (all : List Instr) where
  -- rising, from the number i on
  pub record Rising (end i : ℕ) (l₁ : List ℤ) (p : ℕ) : Type 0 where
    pub owes : emits (concat_map f (from i (end - i))) (pen l₁ p) ≡ emits all (pen l at)

  -- falling, those below the number d
  pub record Falling (s d : ℕ) (l₁ : List ℤ) (p : ℕ) : Type 0 where
    pub past : s < d
    pub owes : emits (concat_map f (reverse (from (suc s) (d - suc s)))) (pen l₁ p) ≡ emits all (pen l at)

module _ {f : ℕ → List Instr} {l : List ℤ}
    {at : ℕ} {all : List Instr} {end i : ℕ} {l₁ : List ℤ} {p : ℕ} (h : Rising f l at all end i l₁ p) where
  pub rising_end : end ≤ i → pen l₁ p ≡ emits all (pen l at)
  unfolding concat_map from
  rising_end n = let z : end - i ≡ 0 = omega arith in
      owes_none (pen l₁ p) (ap (λ k. emits (concat_map f (from i k)) (pen l₁ p)) (sym z) ∙ h.owes)

  module _ (n : i < end) where
    rises : emits (f i ++ concat_map f (from (i + 1) (end - (i + 1)))) (pen l₁ p) ≡ emits all (pen l at)
    unfolding concat_map
    rises = ap (λ xs. emits (concat_map f xs) (pen l₁ p)) (sym (range_next f (λ x. true) i end n)) ∙ h.owes

    pub rising_room : Room all at → Room (f i) p
    rising_room = owes_room (f i) (concat_map f (from (i + 1) (end - (i + 1)))) all l l₁ at p rises

    pub rising_on : {l₂ : List ℤ} {q : ℕ} → pen l₂ q ≡ emits (f i) (pen l₁ p) → Rising f l at all end (i + 1) l₂ q
    rising_on w = record { owes = owes_on _ _ (pen l₁ p) rises w }

module _ {f : ℕ → List Instr} {l : List ℤ}
    {at : ℕ} {all : List Instr} {s d : ℕ} {l₁ : List ℤ} {p : ℕ} (h : Falling f l at all s d l₁ p) where
  pub falling_end : d ≤ suc s → pen l₁ p ≡ emits all (pen l at)
  unfolding concat_map from
  falling_end n = let z : d - suc s ≡ 0 = omega arith in
      owes_none (pen l₁ p) (ap (λ k. emits (concat_map f (reverse (from (suc s) k))) (pen l₁ p)) (sym z) ∙ h.owes)

  module _ (n : suc s < d) where
    falls : emits (f (d - 1) ++ concat_map f (reverse (from (suc s) ((d - 1) - suc s)))) (pen l₁ p) ≡ emits all (pen l at)
    unfolding concat_map
    falls = ap (λ xs. emits (concat_map f xs) (pen l₁ p)) (sym (falls_by s d n)) ∙ h.owes

    pub falling_room : Room all at → Room (f (d - 1)) p
    falling_room = owes_room (f (d - 1)) (concat_map f (reverse (from (suc s) ((d - 1) - suc s)))) all l l₁ at p falls

    pub falling_on : {l₂ : List ℤ} {q : ℕ} → pen l₂ q ≡ emits (f (d - 1)) (pen l₁ p) → Falling f l at all s (d - 1) l₂ q
    falling_on w = record { past = omega arith; owes = owes_on _ _ (pen l₁ p) falls w }

module _ (c : Chart) (h : SoundChart c) (s : ℕ) (inside : s < length c.states)
    (f : ℕ → List Instr) (l : List ℤ) (at end : ℕ) (e : end ≡ suc s + length (descendants c s)) where
  pub rising_begin : Rising f l at (concat_map f (descendants c s)) end (s + 1) l at
  rising_begin =
      let z : s + 1 ≡ suc s = omega arith in
      record {
        owes = ap (λ k. emits (concat_map f (from k (end - k))) (pen l at)) z
            ∙ ap (λ xs. emits (concat_map f xs) (pen l at)) (sym (below_as c h s inside end e));
      }

  pub falling_begin : Falling f l at (concat_map f (reverse (descendants c s))) s end l at
  falling_begin = record {
    past = omega arith;
    owes = ap (λ xs. emits (concat_map f (reverse xs)) (pen l at)) (sym (below_as c h s inside end e));
  }

  pub end_inside : end ≤ length c.states
  end_inside = omega (arith, end_within c h.ordered s inside)
