-- The entries of a block towards the owner of a history, with the arms behind the owner, do what the visits towards it do (01,
-- "History: the owner is entered"). The states are entered lowest number first: so when the owner is entered nothing below it is in
-- yet, and the restore is ready to begin. Assumes nothing.
use mathlib.Core.Path.{◌∙◌, ◌≡◌, ap, refl, subst, sym}
use Prim.Native.Nat.{◌<◌, ◌≤◌, suc, zero, ℕ}
use native.Mathlib.Omega.{arith}
use mathlib.Core.Bool.{Bool, ◌||◌, cond, false, true}
use mathlib.Core.List.{List, [], ◌++◌, ◌∷◌, map}
use lib.ListN.{length}
use lib.Dec.{eqb}
use lib.IntN.{ℤ}
use borrow.Author.Tests.{eq-eqb, eqb-true, ne_eqb}
use Rattle.agreement.proofs.Arms.{arms_do}
use Rattle.agreement.proofs.Entered.{visit_does}
use Rattle.agreement.proofs.Running.{DoesWhere, any_holds, append_does_where}
use Rattle.agreement.proofs.StoredArm.{RestoreBegins}
use Rattle.invariants.proofs.Entering.{Marks, visit_marks, with_all, with_state}
use Rattle.invariants.proofs.Keeps.{Gives, gives_map, holds_of, then_leads}
use Rattle.invariants.proofs.Restoring.{restore_marks, restore_way}
use Rattle.invariants.proofs.Slots.{Lead, slot_at}
use Rattle.invariants.specs.Good.{SlotsOk}
use Rattle.laws.specs.Facts.{Each, Sound, Under, none_left, one_more}
use Rattle.laws.proofs.Lists.{or_left}
use Rattle.laws.proofs.Reach.{pass_states, reach}
use Rattle.laws.proofs.Sound.{SoundChart}
use Rattle.laws.proofs.Steps.{Holds}
use Rattle.laws.proofs.Tree.{range, under_lt}
use Rattle.meaning.specs.Chart.{Chart}
use Rattle.meaning.specs.Compile.{arms, towards_code, visit_code}
use Rattle.meaning.specs.Entry.{Visit, Way, all_below, restore, state_of, visit, visit_towards}
use Rattle.meaning.specs.Lists.{concat_map, from, keep}
use Rattle.meaning.specs.Machine.{go_on, run_code}
use Rattle.meaning.specs.Steps.{◌then◌, each, when}
use Rattle.meaning.specs.Tree.{descendants, kind_of}
use Rattle.meaning.specs.Widget.{Ctx}
use Rattle.meaning.specs.declared.State.{State}
use Rattle.meaning.specs.declared.chart.Kind.TheVariants.{O as kind_o}

-- ---- an itinerary rises

-- the numbers of a list rise, from m on
pub data Rising : ℕ → List ℕ → Type 0 where
  no_more : {m : ℕ} → Rising m []
  next_up : {m x : ℕ} {xs : List ℕ} → m ≤ x → Rising (suc x) xs → Rising m (x ∷ xs)

rising_lower : (m : ℕ) (xs : List ℕ) → Rising (suc m) xs → Rising m xs
rising_lower m [] no_more = no_more
rising_lower m (x ∷ xs) (next_up l h) = next_up {m = m} {x = x} (omega arith) h

rising_kept : (p : ℕ → Bool) (m n : ℕ) → Rising m (keep p (from m n))
unfolding keep from
rising_kept p m zero = no_more
rising_kept p m (suc n) = go (p m) (rising_kept p (suc m) n)
  where
    go : (b : Bool) → Rising (suc m) (keep p (from (suc m) n)) → Rising m (cond b (m ∷ keep p (from (suc m) n)) (keep p (from (suc m) n)))
    go true h = next_up {m = m} {x = m} (omega arith) h
    go false h = rising_lower m (keep p (from (suc m) n)) h

-- the states below s are entered lowest number first
pub itinerary_rises : (c : Chart) (way : ℕ → Way) → Sound c way → (s : ℕ) → s < length c.states
    → Rising (suc s) (map state_of (all_below c way s))
itinerary_rises c way g s l =
    subst (Rising (suc s)) (sym (pass_states c way g s l ∙ ap (keep (λ x. reach c way s x x)) (range c g.ordered s l)))
    (rising_kept (λ x. reach c way s x x) (suc s) (length (descendants c s)))

-- ---- the visits towards the owner

module _ (c : Chart) (r : SoundChart c) (a : ℤ) (b : ℕ) (l : b < length c.states) (kb : kind_of c b ≡ kind_o)
    (sl : List ℤ) (fit : SlotsOk c sl) (lead : Lead c sl) where
  -- nothing below the owner is in
  abbrev Clear : (ℕ → Bool) → Type 0
  Clear on = (x : ℕ) → Under c b x → on x ≡ false

  abbrev At : (ℕ → Bool) → Ctx → Type 0
  At on k = Marks c sl on k.state

  -- entering a state that is not below the owner keeps it so
  clear_with : (x : ℕ) → x ≤ b → (on : ℕ → Bool) → Clear on → Clear (with_state x on)
  clear_with x m on h y u = ap (λ t. t || on y) (ne_eqb y x (λ q. omega (arith, under_lt c r.ordered u))) ∙ h y u

  -- once the owner is in, the restore is ready to begin
  ready : (on : ℕ → Bool) → Clear on → (u : State) → Marks c sl (with_state b on) u → RestoreBegins c b u
  ready on h u m = record {
    inside = l;
    kind = kb;
    wide = m.wide;
    slots = subst (SlotsOk c) (sym m.slots) fit;
    lead = subst (Lead c) (sym m.slots) lead;
    owner = m.marks b ∙ or_left (eqb b b) (on b) (eq-eqb b b refl);
    clear = λ x u₁. m.marks x ∙ clear_with b (omega arith) on h x u₁;
  }

  abbrev restored : List ℕ
  restored = map state_of (all_below c (restore_way (slot_at sl b) sl) b)

  module _ (v : Visit) (on : ℕ → Bool) (inside : state_of v < length c.states) where
    abbrev now : ℕ → Bool
    now = with_state (state_of v) on

    enters : (k : Ctx) → At on k → Gives (visit c a v k) (At now)
    enters k m = visit_marks c sl a v inside on k m

    -- the owner itself, and behind it the arms
    owner_does : state_of v ≡ b → Clear on
        → DoesWhere (At on) (run_code c.vars a (visit_code c v ++ arms c b)) (visit c a v then restore c a b)
    owner_does e h =
        append_does_where c.vars a (At on) (λ k. RestoreBegins c b k.state) (visit_code c v) (arms c b) (visit c a v) (restore c a b)
        (λ k m. visit_does c a v k)
        (λ k m. holds_of (λ j. RestoreBegins c b j.state) (visit c a v k)
        (gives_map (At now) (λ j. RestoreBegins c b j.state) (visit c a v k) (enters k m)
        (λ j w. ready on h j.state (subst (λ x. Marks c sl (with_state x on) j.state) e w))))
        (arms_do c a b r)

    owner_enters : (k : Ctx) → At on k → Holds ((visit c a v then restore c a b) k) (At (with_all restored now))
    owner_enters k m = holds_of (At (with_all restored now)) ((visit c a v then restore c a b) k)
        (then_leads (Marks c sl on) (Marks c sl now) (Marks c sl (with_all restored now)) (visit c a v) (restore c a b) enters
        (restore_marks c r sl fit lead b l kb a now) k m)

    -- another state, and nothing behind it
    other_does : DoesWhere (At on) (run_code c.vars a (visit_code c v ++ [])) (visit c a v then when false (restore c a b))
    unfolding run_code each go_on when
    other_does = append_does_where c.vars a (At on) (λ k. Unit {0}) (visit_code c v) [] (visit c a v) (when false (restore c a b))
        (λ k m. visit_does c a v k) (λ k m. any_holds (visit c a v k)) (λ k m. refl)

    other_enters : (k : Ctx) → At on k → Holds ((visit c a v then when false (restore c a b)) k) (At now)
    unfolding when
    other_enters k m = holds_of (At now) ((visit c a v then when false (restore c a b)) k)
        (then_leads (Marks c sl on) (Marks c sl now) (Marks c sl now) (visit c a v) (when false (restore c a b)) enters (λ j w. w) k m)

  -- from m on: where the owner is still to come, nothing below it is in
  pub towards_do : (m : ℕ) (vs : List Visit) → Rising m (map state_of vs) → Each (λ v. state_of v < length c.states) vs
      → (on : ℕ → Bool) → (m ≤ b → Clear on)
      → DoesWhere (At on) (run_code c.vars a (concat_map (towards_code c b) vs)) (each (visit_towards c a b) vs)
  unfolding concat_map run_code each go_on when towards_code visit_towards ◌then◌
  towards_do m [] no_more none_left on h = λ k w. refl
  towards_do m (v ∷ vs) (next_up q rs) (one_more i is) on h = step (eqb (state_of v) b) refl (towards_do (suc (state_of v)) vs rs is)
    where
      step : (t : Bool) → eqb (state_of v) b ≡ t
          → ((next : ℕ → Bool) → (suc (state_of v) ≤ b → Clear next)
          → DoesWhere (At next) (run_code c.vars a (concat_map (towards_code c b) vs)) (each (visit_towards c a b) vs))
          → DoesWhere (At on)
          (run_code c.vars a ((visit_code c v ++ elim t [ true ↦ arms c b | false ↦ [] ]) ++ concat_map (towards_code c b) vs))
          ((visit c a v then when t (restore c a b)) then each (visit_towards c a b) vs)
      step true e rest = append_does_where c.vars a (At on) (At (with_all restored (with_state (state_of v) on)))
          (visit_code c v ++ arms c b) (concat_map (towards_code c b) vs) (visit c a v then restore c a b) (each (visit_towards c a b) vs)
          (owner_does v on i same (h (omega (arith, q, same)))) (owner_enters v on i)
          (rest (with_all restored (with_state (state_of v) on)) (λ z. absurd (omega (arith, z, same))))
        where
          same : state_of v ≡ b
          same = eqb-true (state_of v) b e
      step false e rest = append_does_where c.vars a (At on) (At (with_state (state_of v) on)) (visit_code c v ++ [])
          (concat_map (towards_code c b) vs) (visit c a v then when false (restore c a b)) (each (visit_towards c a b) vs)
          (other_does v on i) (other_enters v on i)
          (rest (with_state (state_of v) on) (λ z. clear_with (state_of v) (omega arith) on (h (omega arith))))
