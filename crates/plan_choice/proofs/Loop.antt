-- The chooser's loop over the heads, turn by turn, over plain variables. Assumes nothing.
use mathlib.Core.Path.{◌≡◌, refl, sym, ap, ◌∙◌, subst}
use Prim.Native.Nat.{ℕ, suc, ◌+◌, ◌≤◌, ◌<◌}
use native.Mathlib.Omega.{arith}
use mathlib.Core.Bool.{Bool, true, false}
use mathlib.Core.List.{List, [], ◌++◌, map}
use lib.ListN.{length, get_or, take, drop, set, length-set, length-map}
use lib.Seq.{length-take-le, get_or-take}
use lib.IntN.{ℤ}
use Rattle.sizes.specs.Sizes.{EVENTS, TRANSITIONS}
use mathlib.Core.Logic.{⊎_elim}
use Rattle.laws.proofs.Lists.{le_or_lt}
use Rattle.laws.proofs.Value.{get_d_map}
use Rattle.meaning.specs.Lists.{exists}
use Rattle.meaning.specs.declared.State.{State}
use Rattle.meaning.specs.declared.plan.Counts.{Counts}
use Rattle.meaning.specs.declared.plan.Head.{Head}
use Rattle.meaning.specs.Machine.{head_enabled, spans_meet, thin_heads, chosen_heads}
use Rattle.meaning.specs.WellFormed.{heads_at, plan_by}
use Rattle.choice.specs.Choice.{seen}
use Rattle.plan_choice.specs.Heads.{Examined, head_of, picked, Chose}
use Rattle.plan_choice.specs.Links.{head_from, heads_below, SOURCES, STARTS, listed, Linked}
use Rattle.plan_choice.proofs.Linking.{from_on, from_most, from_own, keep_from}
use Rattle.plan_choice.proofs.Lining.{below_up, listed_in, listed_past}
use Rattle.plan_choice.proofs.Filling.{place_few, place_names, place_source}
use Rattle.plan_choice.proofs.Facts.{counts_sized, heads_long, head_is, head_trigger}
use Rattle.plan_choice.proofs.Thin.{gone_after, gone_hit, gone_none, with_rest, rest_off}
use Rattle.plan_choice.proofs.Thin.{rest_clash, rest_take, rest_end, picked_more, named_more}

-- after h heads: the chosen so far, with what the rest adds, are the chosen of all
pub record Choosing (ns : List ℤ) (base heads e : ℕ) (u : State) (h : ℕ) (picks : List ℕ) (count : ℕ) : Type 0 where
  pub owes : with_rest e u (drop h (plan_by ns).heads) (picked ns base count picks) ≡ chosen_heads (plan_by ns) e u
  pub named : (j : ℕ) → j < count → get_or picks j 0 < heads
  pub size : length picks ≡ TRANSITIONS
  pub few : count ≤ h

pub choosing_begin : {ns : List ℤ} {base heads e : ℕ} {u : State} {picks : List ℕ} → length picks ≡ TRANSITIONS
    → Choosing ns base heads e u 0 picks 0
unfolding with_rest gone_after chosen_heads
choosing_begin l = record { owes = refl; named = λ j q. absurd (omega arith); size = l; few = omega arith }

-- the j-th of the chosen
pub picked_at : {A : Type 0} (f : ℕ → A) (picks : List ℕ) (count j : ℕ) (d : A) → count ≤ length picks → j < count
    → get_or (map f (take count picks)) j d ≡ f (get_or picks j 0)
picked_at f picks count j d l q =
    get_d_map f (take count picks) j d 0 (subst (λ n. j < n) (sym (length-take-le count picks l)) q) ∙ ap f (get_or-take count picks j 0 q)

pub picked_long : {A : Type 0} (f : ℕ → A) (picks : List ℕ) (count : ℕ) → count ≤ length picks → length (map f (take count picks)) ≡ count
picked_long f picks count l = length-map (take count picks) f ∙ length-take-le count picks l

module _ {ns : List ℤ} {k : Counts} (x : Examined ns k) {base e : ℕ}
    (b : base ≡ heads_at k) {u : State} {h : ℕ} {picks : List ℕ} {count : ℕ}
    (w : Choosing ns base k.heads e u h picks count) where
  module _ (l : h < k.heads) where
    within : h < length (plan_by ns).heads
    within = omega (arith, heads_long x, l)

    is_head : get_or (plan_by ns).heads h (head_of ns base h) ≡ head_of ns base h
    is_head = subst (λ a. get_or (plan_by ns).heads h (head_of ns a h) ≡ head_of ns a h) (sym b) (head_is x h l (head_of ns
        (heads_at k) h))

    room : count < TRANSITIONS
    room = omega (arith, (counts_sized x).heads, w.few, l)

    in_array : count < length picks
    in_array = omega (arith, room, w.size)

    pub choosing_off : head_enabled e u (head_of ns base h) ≡ false → Choosing ns base k.heads e u (h + 1) picks count
    choosing_off f = record {
      owes = rest_off e u (plan_by ns).heads h _ (head_of ns base h) within is_head (picked ns base count picks) f ∙ w.owes;
      named = w.named;
      size = w.size;
      few = omega (arith, w.few);
    }

    module _ (f : head_enabled e u (head_of ns base h) ≡ true) where
      pub choosing_clash : (j : ℕ) → j < count → spans_meet (head_of ns base h) (head_of ns base (get_or picks j 0)) ≡ true
          → Choosing ns base k.heads e u (h + 1) picks count
      choosing_clash j q m = record {
        owes = rest_clash e u (plan_by ns).heads h _ (head_of ns base h) within is_head (picked ns base count picks) f
            (gone_hit (spans_meet (head_of ns base h)) [] (picked ns base count picks) j (head_of ns base 0)
            (subst (λ n. j < n) (sym (picked_long (head_of ns base) picks count (omega (arith, in_array)))) q)
            (rw (picked_at (head_of ns base) picks count j (head_of ns base 0) (omega (arith, in_array)) q) m)) ∙ w.owes;
        named = w.named;
        size = w.size;
        few = omega (arith, w.few);
      }

      pub choosing_take : ((j : ℕ) → j < count → spans_meet (head_of ns base h) (head_of ns base (get_or picks j 0)) ≡ false)
          → Choosing ns base k.heads e u (h + 1) (set picks count h) (count + 1)
      unfolding exists
      choosing_take m = record {
        owes = ap (with_rest e u (drop (h + 1) (plan_by ns).heads)) (picked_more (head_of ns base) picks count h in_array)
            ∙ rest_take e u (plan_by ns).heads h _ (head_of ns base h) within is_head (picked ns base count picks) f
            (gone_none (spans_meet (head_of ns base h)) [] (picked ns base count picks) (head_of ns base 0) refl none)
            ∙ w.owes;
        named = named_more picks count h k.heads in_array w.named l;
        size = length-set picks count h ∙ w.size;
        few = omega (arith, w.few);
      }
        where
          none : (j : ℕ) → j < length (picked ns base count picks)
              → spans_meet (head_of ns base h) (get_or (picked ns base count picks) j (head_of ns base 0)) ≡ false
          none j q =
              let q' : j < count = omega (arith, q, picked_long (head_of ns base) picks count (omega (arith, in_array))) in
              rw (picked_at (head_of ns base) picks count j (head_of ns base 0) (omega (arith, in_array)) q') (m j q')

  pub choosing_end : k.heads ≤ h → h ≤ k.heads → {active : List Bool} {vars : List ℤ} → seen active vars ≡ u
      → Chose ns k e active vars count picks
  choosing_end l g {active} {vars} v = record {
    is = subst (λ a. picked ns a count picks ≡ chosen_heads (plan_by ns) e (seen active vars)) b
        (sym (rest_end e u (plan_by ns).heads h (picked ns base count picks) (omega (arith, heads_long x, l))) ∙ w.owes
        ∙ ap (chosen_heads (plan_by ns) e) (sym v));
    stands = record { named = w.named; few = omega (arith, w.few, g, (counts_sized x).heads); size = w.size };
  }

-- ---- from head to head of one trigger

-- the head that comes next has the trigger, or is past the heads; those before it are done with
pub record Walking (ns : List ℤ) (base heads e : ℕ) (u : State) (next : ℕ) (picks : List ℕ) (count : ℕ) : Type 0 where
  pub done : Choosing ns base heads e u next picks count
  pub within : next ≤ heads
  pub own : next < heads → (head_of ns base next).trigger ≡ e

rest_from : (e : ℕ) (u : State) (all : List Head) (i : ℕ) (ps : List Head)
    → with_rest e u (drop (head_from all e i) all) ps ≡ with_rest e u (drop i all) ps
unfolding with_rest
rest_from e u all i ps = ap (λ hs. ps ++ thin_heads (gone_after [] ps) hs) (keep_from e all i u)

module _ {ns : List ℤ} {k : Counts} (x : Examined ns k) {base e : ℕ} (b : base ≡ heads_at k) {u : State} where
  pub walk_on : {h : ℕ} {picks : List ℕ} {count : ℕ} → Choosing ns base k.heads e u h picks count → h ≤ k.heads → {next : ℕ}
      → next ≡ head_from (plan_by ns).heads e h → Walking ns base k.heads e u next picks count
  walk_on {h} {picks} {count} w l {next} q = record {
    done = record {
      owes = ap (λ i. with_rest e u (drop i all) (picked ns base count picks)) q ∙ rest_from e u all h (picked ns base count picks)
          ∙ w.owes;
      named = w.named;
      size = w.size;
      few = omega (arith, w.few, q, from_on e all h);
    };
    within = omega (arith, q, heads_long x, from_most e all h (omega (arith, heads_long x, l)));
    own = λ g.
        ap (λ a. (head_of ns a next).trigger) b
        ∙ ap (λ y. y.trigger) (sym (head_is x next g (head_of ns (heads_at k) next)))
        ∙ ap (λ i. (get_or all i (head_of ns (heads_at k) next)).trigger) q
        ∙ from_own e all h (head_of ns (heads_at k) next) (omega (arith, heads_long x, q, g));
  }
    where
      all : List Head
      all = (plan_by ns).heads

  -- one head; the index has the one after it
  module _ {next : ℕ} {picks : List ℕ} {count : ℕ} (w : Walking ns base k.heads e u next picks count) (l : next < k.heads)
      {after : ℕ} (follows : after ≡ head_from (plan_by ns).heads e (next + 1)) where
    -- the answer r of the test in a step of the head's own trigger
    module _ {r : Bool} (a : r ≡ head_enabled (head_of ns base next).trigger u (head_of ns base next)) where
      its_own : head_enabled e u (head_of ns base next) ≡ r
      its_own = ap (λ t. head_enabled t u (head_of ns base next)) (sym (w.own l)) ∙ sym a

      pub walk_off : r ≡ false → Walking ns base k.heads e u after picks count
      walk_off q = walk_on (choosing_off x b w.done l (its_own ∙ q)) (omega (arith, l)) follows

      module _ (q : r ≡ true) where
        pub walk_clash : (j : ℕ) → j < count → spans_meet (head_of ns base next) (head_of ns base (get_or picks j 0)) ≡ true
            → Walking ns base k.heads e u after picks count
        walk_clash j g m = walk_on (choosing_clash x b w.done l (its_own ∙ q) j g m) (omega (arith, l)) follows

        pub walk_take : ((j : ℕ) → j < count → spans_meet (head_of ns base next) (head_of ns base (get_or picks j 0)) ≡ false)
            → Walking ns base k.heads e u after (set picks count next) (count + 1)
        walk_take m = walk_on (choosing_take x b w.done l (its_own ∙ q) m) (omega (arith, l)) follows

-- ---- along the places of one trigger

-- the place under way, the end of the trigger's places, and the head that comes next
pub record Turning (ns : List ℤ) (k : Counts) (base e : ℕ) (u : State) (links : List ℕ)
    (end i : ℕ) (picks : List ℕ) (count : ℕ) : Type 0 where
  pub low : heads_below e (plan_by ns).heads ≤ i
  pub high : i ≤ end
  pub ends : end ≡ heads_below (suc e) (plan_by ns).heads
  pub walk : Walking ns base k.heads e u (listed links end k.heads i) picks count

module _ {ns : List ℤ} {k : Counts} (x : Examined ns k) {base e : ℕ} (b : base ≡ heads_at k) {u : State} {links : List ℕ}
    (v : Linked ns k links) (g : e ≤ EVENTS) where
  pub turn_begin : {picks : List ℕ} → length picks ≡ TRANSITIONS
      → Turning ns k base e u links (get_or links (STARTS + e + 1) 0) (get_or links (STARTS + e) 0) picks 0
  turn_begin {picks} n = record {
    low = omega (arith, v.starts e (omega arith));
    high = omega (arith, v.starts e (omega arith), ends, below_up (plan_by ns).heads e (suc e) (omega arith));
    ends = ends;
    walk = walk_on x b (choosing_begin n) (omega arith)
        (ap (λ y. listed links y k.heads (get_or links (STARTS + e) 0)) ends
        ∙ ap (listed links (heads_below (suc e) (plan_by ns).heads) k.heads) (v.starts e (omega arith))
        ∙ (v.lists e g).first);
  }
    where
      ends : get_or links (STARTS + e + 1) 0 ≡ heads_below (suc e) (plan_by ns).heads
      ends = let z : STARTS + e + 1 ≡ STARTS + suc e = omega arith in ap (λ y. get_or links y 0) z ∙ v.starts (suc e) (omega arith)

  module _ {end i : ℕ} {picks : List ℕ} {count : ℕ} (w : Turning ns k base e u links end i picks count) where
    module _ (l : i < end) where
      inside : i < heads_below (suc e) (plan_by ns).heads
      inside = omega (arith, l, w.ends)

      pub turn_few : i < TRANSITIONS
      turn_few = place_few x v e g i w.low inside

      pub turn_names : get_or links i 0 < k.heads
      turn_names = place_names x v e g i w.low inside

      pub turn_source : get_or links (SOURCES + i) 0 ≡ (head_of ns (heads_at k) (get_or links i 0)).source
      turn_source = place_source x v e g i w.low inside

      pub turn_head : Walking ns base k.heads e u (get_or links i 0) picks count
      turn_head = subst (λ y. Walking ns base k.heads e u y picks count) (listed_in links end k.heads i l) w.walk

      follows : listed links end k.heads (i + 1) ≡ head_from (plan_by ns).heads e (get_or links i 0 + 1)
      follows = ap (λ y. listed links y k.heads (i + 1)) w.ends ∙ (v.lists e g).next i w.low inside

      turned : {ps : List ℕ} {n : ℕ} → Walking ns base k.heads e u (listed links end k.heads (i + 1)) ps n
          → Turning ns k base e u links end (i + 1) ps n
      turned y = record { low = omega (arith, w.low); high = omega (arith, l); ends = w.ends; walk = y }

      module _ {r : Bool} (a : r ≡ head_enabled (head_of ns base (get_or links i 0)).trigger u (head_of ns base (get_or links i 0))) where
        pub turn_off : r ≡ false → Turning ns k base e u links end (i + 1) picks count
        turn_off q = turned (walk_off x b turn_head turn_names follows a q)

        module _ (q : r ≡ true) where
          pub turn_clash : (j : ℕ) → j < count
              → spans_meet (head_of ns base (get_or links i 0)) (head_of ns base (get_or picks j 0)) ≡ true
              → Turning ns k base e u links end (i + 1) picks count
          turn_clash j h m = turned (walk_clash x b turn_head turn_names follows a q j h m)

          pub turn_take : ((j : ℕ) → j < count
              → spans_meet (head_of ns base (get_or links i 0)) (head_of ns base (get_or picks j 0)) ≡ false)
              → Turning ns k base e u links end (i + 1) (set picks count (get_or links i 0)) (count + 1)
          turn_take m = turned (walk_take x b turn_head turn_names follows a q m)

    pub turn_end : end ≤ i → {active : List Bool} {vars : List ℤ} → seen active vars ≡ u → Chose ns k e active vars count picks
    turn_end l q =
        let past = listed_past links end k.heads i l in
        choosing_end x b w.walk.done (omega (arith, past)) w.walk.within q

-- ---- nothing is chosen

module _ {ns : List ℤ} {k : Counts} (x : Examined ns k) {e : ℕ} {picks : List ℕ} (n : length picks ≡ TRANSITIONS)
    {active : List Bool} {vars : List ℤ} where
  walked : Walking ns (heads_at k) k.heads e (seen active vars) (head_from (plan_by ns).heads e 0) picks 0
  walked = walk_on x refl (choosing_begin n) (omega arith) refl

  -- no head has the trigger
  pub chose_none : k.heads ≤ head_from (plan_by ns).heads e 0 → Chose ns k e active vars 0 picks
  chose_none l = choosing_end x refl walked.done l walked.within refl

  -- no head can have it
  pub chose_foreign : EVENTS < e → Chose ns k e active vars 0 picks
  chose_foreign g = ⊎_elim chose_none has (le_or_lt k.heads (head_from (plan_by ns).heads e 0))
    where
      has : head_from (plan_by ns).heads e 0 < k.heads → Chose ns k e active vars 0 picks
      has l = absurd (omega (arith, g, walked.own l, head_trigger x (head_from (plan_by ns).heads e 0) l))

  -- the index shows that none has it
  pub chose_empty : {links : List ℕ} → Linked ns k links → e ≤ EVENTS → get_or links (STARTS + suc e) 0 ≤ get_or links (STARTS + e) 0
      → Chose ns k e active vars 0 picks
  chose_empty {links} v g l =
      turn_end x refl v g (turn_begin x refl v g n)
      (let z : STARTS + e + 1 ≡ STARTS + suc e = omega arith in subst (λ y. get_or links y 0 ≤ get_or links (STARTS + e) 0) (sym z) l) refl
