-- Laws of the walk over a part of the input: how it stands before each byte, one byte more, and where it stops; and what a caller learns.
-- Assumes nothing.
use mathlib.Core.Path.{◌≡◌, refl, sym, ap, ◌∙◌}
use mathlib.Core.Bool.{Bool, true, false}
use mathlib.Core.List.{List, [], ◌∷◌, ◌++◌, append-nil}
use Prim.Native.Nat.{ℕ, suc, ◌+◌, ◌-◌, ◌<◌, ◌≤◌}
use borrow.Author.Tests.{leb-true, le-leb}
use native.Mathlib.Omega.{arith}
use native.Mathlib.Numerals.{add-one}
use lib.ListN.{length, get_or, take, drop, length-drop, take-append-drop}
use lib.Seq.{slice, slice_empty, drop-cons, drop-append-le, length-take-le, length-slice, take-take}
use Rattle.pen.specs.Pen.{Pen, pen, put_all}
use Rattle.pen.proofs.Laws.{all_append, all_long, all_stood}
use Rattle.console.specs.Session.{Turns, Passed, ended, passed, passed_all}
use Rattle.console.specs.Session.{Under as Seen}
use Rattle.console.specs.declared.scan.Collected.{Collected}
use Rattle.console.specs.Scan.{fed, line_at, scan_on}
use Rattle.console.specs.Stretch.{inside, Collects}
use Rattle.console.proofs.Session.{under_append, printed_append, under_one, printed_one, printed_none}
use Rattle.console.proofs.Stretch.{further, inside_more, passed_inside, inside_passed, slice_next}
use Rattle.session.specs.declared.Under.{Under}
use Rattle.session.specs.declared.Walked.{Walked}
use Rattle.session.specs.Turned.{Passes, LARGEST, seen}
use Rattle.session.specs.Walked.{Walks, roomy, reach, one_more, walked}
use Rattle.session.proofs.Steps.{byte_ends}

-- ---- how far

reach_none : (f : Turns) (u : Seen) (p : Pen) (bs : List ℕ) → length bs ≡ 0 → reach f u p bs ≡ 0
unfolding reach
reach_none f u p [] e = refl
reach_none f u p (b ∷ bs) e = absurd (omega arith)

reach_full : (f : Turns) (u : Seen) (p : Pen) (bs : List ℕ) → roomy p ≡ false → reach f u p bs ≡ 0
unfolding reach
reach_full f u p [] e = refl
reach_full f u p (b ∷ bs) e = rw e

reach_more : (f : Turns) (u : Seen) (p : Pen) (b : ℕ) (bs : List ℕ) → roomy p ≡ true
    → reach f u p (b ∷ bs) ≡ suc (reach f (passed f u b).under (put_all (passed f u b).printed p) bs)
unfolding reach
reach_more f u p b bs e = rw e

reach_within : (f : Turns) (u : Seen) (p : Pen) (bs : List ℕ) → reach f u p bs ≤ length bs
unfolding reach
reach_within f u p [] = omega arith
reach_within f u p (b ∷ bs) =
    go (roomy p) (reach f (passed f u b).under (put_all (passed f u b).printed p) bs)
    (reach_within f (passed f u b).under (put_all (passed f u b).printed p) bs)
  where
    go : (t : Bool) (n : ℕ) → n ≤ length bs → one_more t n ≤ suc (length bs)
    go true n h = omega arith
    go false n h = omega arith

-- bytes inside a line print nothing: where there is room for one more report at the first of them, there is at each
reach_inside : (f : Turns) (u : Seen) (p : Pen) (bs rest : List ℕ) → roomy p ≡ true → inside bs ≡ true
    → reach f u p (bs ++ rest) ≡ length bs + reach f (further u bs) p rest
unfolding reach scan_on put_all
reach_inside f u p [] rest e h = omega arith
reach_inside f u p (b ∷ bs) rest e h =
    let next : Seen = record { state = u.state; scan = fed u.scan b } in
    let more = reach_inside f next p bs rest e (inside_more b bs h).1 in
    reach_more f u p b (bs ++ rest) e
    ∙ ap (λ q. suc (reach f q.under (put_all q.printed p) (bs ++ rest))) (passed_inside f u b bs h)
    ∙ omega arith

-- ---- the bytes between two places

drop_next : (part : List ℕ) (i : ℕ) → i < length part → drop i part ≡ get_or part i 0 ∷ drop (i + 1) part
drop_next part i h = drop-cons part i 0 h ∙ ap (λ n. get_or part i 0 ∷ drop n part) (sym (add-one i))

-- from a place on: up to another, and then the rest
pub slice_rest : (part : List ℕ) (from to : ℕ) → from ≤ to → to ≤ length part → slice from to part ++ drop to part ≡ drop from part
slice_rest part from to h k =
    sym (drop-append-le from (take to part) (drop to part) (rw (length-take-le to part k) h))
    ∙ ap (drop from) (take-append-drop to part)

-- up to a place, and from there up to another
slice_append : (part : List ℕ) (from i to : ℕ) → from ≤ i → i ≤ to → to ≤ length part
    → slice from i part ++ slice i to part ≡ slice from to part
slice_append part from i to h k l =
    ap (λ bs. drop from bs ++ slice i to part) (sym (take-take i to part k))
    ∙ slice_rest (take to part) from i h (rw (length-take-le to part l) k)

-- ---- the walk

same_seen : (a : Under) (s : Seen) → a.state ≡ s.state → a.scan ≡ s.scan → seen a ≡ s
same_seen a s e g = ap (λ x. record { state = x; scan = a.scan }) e ∙ ap (λ y. record { state = s.state; scan = y }) g

module _ (f : Turns) (part : List ℕ) (from : ℕ) (u : Seen) (before : List ℕ) (at : ℕ) where
  -- how it stands before the byte at i
  pub record Walking (i : ℕ) (out : List ℕ) (here : Under) : Type 0 where
    pub order : from ≤ i
    pub long : length out ≡ length before
    pub ahead : i + reach f (seen here) (pen out here.at) (drop i part) ≡ from + reach f u (pen before at) (drop from part)
    pub under : seen here ≡ (walked f u part from i).under
    pub bytes : pen out here.at ≡ put_all (walked f u part from i).printed (pen before at)
    pub whole : at ≤ length before → here.at ≤ length before

  module _ (i : ℕ) (out : List ℕ) (here : Under) (w : Walking i out here) where
    stopped : reach f (seen here) (pen out here.at) (drop i part) ≡ 0
        → Walks f part from u before at out (record { upto = i; under = here })
    stopped e = record { upto = omega (arith, w.ahead); under = w.under; bytes = w.bytes; whole = w.whole }

    -- at the part's end, and where there might not be room
    pub walk_done : length part ≤ i → Walks f part from u before at out (record { upto = i; under = here })
    walk_done h = stopped (reach_none f (seen here) (pen out here.at) (drop i part) (rw (length-drop i part) (omega arith)))

    pub walk_full : roomy (pen out here.at) ≡ false → Walks f part from u before at out (record { upto = i; under = here })
    walk_full e = stopped (reach_full f (seen here) (pen out here.at) (drop i part) e)

    -- the bytes inside a line
    module _ (c : Collected) (e : roomy (pen out here.at) ≡ true) (k : Collects part i here.scan c) where
      abbrev then : Under
      then = record { state = here.state; scan = c.scan; at = here.at }

      abbrev stretch : List ℕ
      stretch = slice i c.upto part

      went_on : seen then ≡ further (seen here) stretch
      went_on = ap (λ s. record { state = here.state; scan = s }) k.line

      reach_then : reach f (seen here) (pen out here.at) (drop i part)
          ≡ (c.upto - i) + reach f (seen then) (pen out here.at) (drop c.upto part)
      reach_then =
          ap (reach f (seen here) (pen out here.at)) (sym (slice_rest part i c.upto k.order k.within))
          ∙ reach_inside f (seen here) (pen out here.at) stretch (drop c.upto part) e k.none
          ∙ ap (λ n. n + reach f (further (seen here) stretch) (pen out here.at) (drop c.upto part))
          (length-slice i c.upto part k.within)
          ∙ ap (λ v. (c.upto - i) + reach f v (pen out here.at) (drop c.upto part)) (sym went_on)

      joined : slice from i part ++ stretch ≡ slice from c.upto part
      joined = slice_append part from i c.upto w.order k.order k.within

      under_then : seen then ≡ (walked f u part from c.upto).under
      under_then =
          went_on
          ∙ sym (ap (λ p. p.under) (inside_passed f (seen here) stretch k.none))
          ∙ ap (λ v. (passed_all f v stretch).under) w.under
          ∙ sym (under_append f u (slice from i part) stretch)
          ∙ ap (λ l. (passed_all f u l).under) joined

      printed_then : (walked f u part from i).printed ≡ (walked f u part from c.upto).printed
      printed_then =
          sym (append-nil (walked f u part from i).printed)
          ∙ ap (λ p. (walked f u part from i).printed ++ p.printed) (sym (inside_passed f (seen here) stretch k.none))
          ∙ ap (λ v. (walked f u part from i).printed ++ (passed_all f v stretch).printed) w.under
          ∙ sym (printed_append f u (slice from i part) stretch)
          ∙ ap (λ l. (passed_all f u l).printed) joined

      pub walk_inside : Walking c.upto out then
      walk_inside = record {
        order = omega (arith, w.order, k.order);
        long = w.long;
        ahead = omega (arith, w.ahead, k.order, reach_then);
        under = under_then;
        bytes = w.bytes ∙ ap (λ l. put_all l (pen before at)) printed_then;
        whole = w.whole;
      }

    -- one byte more
    module _ (after : List ℕ) (next : Under) (h : i < length part) (e : roomy (pen out here.at) ≡ true)
        (p : Passes (passed f (seen here) (get_or part i 0)) out here.at after next) where
      abbrev q : Passed
      q = passed f (seen here) (get_or part i 0)

      moved : seen next ≡ q.under
      moved = same_seen next q.under p.widget p.line

      reach_next : reach f (seen here) (pen out here.at) (drop i part)
          ≡ suc (reach f (seen next) (pen after next.at) (drop (i + 1) part))
      reach_next =
          ap (reach f (seen here) (pen out here.at)) (drop_next part i h)
          ∙ reach_more f (seen here) (pen out here.at) (get_or part i 0) (drop (i + 1) part) e
          ∙ ap (λ k. suc (reach f k (put_all q.printed (pen out here.at)) (drop (i + 1) part))) (sym moved)
          ∙ ap (λ k. suc (reach f (seen next) k (drop (i + 1) part))) (sym p.bytes)

      under_next : seen next ≡ (walked f u part from (i + 1)).under
      under_next =
          moved
          ∙ sym (under_one f (seen here) (get_or part i 0))
          ∙ ap (λ k. (passed_all f k (get_or part i 0 ∷ [])).under) w.under
          ∙ sym (under_append f u (slice from i part) (get_or part i 0 ∷ []))
          ∙ ap (λ l. (passed_all f u l).under) (sym (slice_next part from i w.order h))

      printed_next : (walked f u part from i).printed ++ q.printed ≡ (walked f u part from (i + 1)).printed
      printed_next =
          ap (λ l. (walked f u part from i).printed ++ l) (sym (printed_one f (seen here) (get_or part i 0)))
          ∙ ap (λ k. (walked f u part from i).printed ++ (passed_all f k (get_or part i 0 ∷ [])).printed) w.under
          ∙ sym (printed_append f u (slice from i part) (get_or part i 0 ∷ []))
          ∙ ap (λ l. (passed_all f u l).printed) (sym (slice_next part from i w.order h))

      bytes_next : pen after next.at ≡ put_all (walked f u part from (i + 1)).printed (pen before at)
      bytes_next =
          p.bytes
          ∙ ap (put_all q.printed) w.bytes
          ∙ sym (all_append (walked f u part from i).printed q.printed (pen before at))
          ∙ ap (λ l. put_all l (pen before at)) printed_next

      pub walk_more : Walking (i + 1) after next
      walk_more = record {
        order = omega (arith, w.order);
        long = ap (λ k. length k.bytes) p.bytes ∙ all_long q.printed (pen out here.at) ∙ w.long;
        ahead = omega (arith, w.ahead, reach_next);
        under = under_next;
        bytes = bytes_next;
        whole = λ k.
            (let room : here.at + LARGEST ≤ length out = leb-true (here.at + LARGEST) (length out) e in
            omega (arith, w.long, p.whole room));
      }

  -- a line: its bytes up to the part's end, or up to its LF, which ends it
  module _ (i : ℕ) (out : List ℕ) (here : Under) (w : Walking i out here) (c : Collected) (e : roomy (pen out here.at) ≡ true)
      (k : Collects part i here.scan c) where
    pub walk_ends : c.upto ≡ length part
        → Walks f part from u before at out
        (record { upto = c.upto; under = record { state = here.state; scan = c.scan; at = here.at } })
    walk_ends h = walk_done c.upto out (record { state = here.state; scan = c.scan; at = here.at })
        (walk_inside i out here w c e k) (omega arith)

    pub walk_line : (c.upto ≡ length part → ⊥) → (after : List ℕ) (next : Under)
        → Passes (ended (f here.state (line_at c.scan))) out here.at after next → Walking (c.upto + 1) after next
    walk_line h after next p =
        let inner : c.upto < length part = omega (arith, k.within) in
        walk_more c.upto out (record { state = here.state; scan = c.scan; at = here.at })
        (walk_inside i out here w c e k) after next inner e
        (byte_ends f c.scan here.state out here.at after next p (get_or part c.upto 0) (k.stop inner))

-- before its first byte
pub walk_begins : (f : Turns) (part : List ℕ) (from : ℕ) (under : Under) (out : List ℕ)
    → Walking f part from (seen under) out under.at from out under
unfolding put_all
walk_begins f part from under out =
    let z : passed_all f (seen under) (slice from from part) ≡ record { under = seen under; printed = [] } =
    ap (passed_all f (seen under)) (slice_empty from part) ∙ printed_none f (seen under) in
    record {
      order = omega arith;
      long = refl;
      ahead = refl;
      under = sym (ap (λ p. p.under) z);
      bytes = sym (ap (λ p. put_all p.printed (pen out under.at)) z);
      whole = λ h. h;
    }

-- ---- what a caller learns

module _ (f : Turns) (part : List ℕ) (from : ℕ) (u : Seen) (before : List ℕ) (at : ℕ) (after : List ℕ) (r : Walked)
    (w : Walks f part from u before at after r) where
  -- the walk stays in the part
  pub walks_within : from ≤ length part → (from ≤ r.upto) × (r.upto ≤ length part)
  walks_within h =
      let n : reach f u (pen before at) (drop from part) ≤ length (drop from part) = reach_within f u (pen before at) (drop from part) in
      let l = length-drop from part in
      let e = w.upto in
      (omega arith, omega arith)

  -- and goes on where there is room
  pub walks_on : from < length part → at + LARGEST ≤ length before → from < r.upto
  walks_on h k =
      let q = passed f u (get_or part from 0) in
      let n = reach f q.under (put_all q.printed (pen before at)) (drop (suc from) part) in
      let e : reach f u (pen before at) (drop from part) ≡ suc n =
      ap (reach f u (pen before at)) (drop-cons part from 0 h)
      ∙ reach_more f u (pen before at) (get_or part from 0) (drop (suc from) part) (le-leb (at + LARGEST) (length before) k) in
      let g = w.upto in
      omega arith

  -- what it has left does to the widget and the line what all of it does
  pub walks_rest : from ≤ length part
      → (passed_all f (seen r.under) (drop r.upto part)).under ≡ (passed_all f u (drop from part)).under
  walks_rest h =
      let v = walks_within h in
      ap (λ k. (passed_all f k (drop r.upto part)).under) w.under
      ∙ sym (under_append f u (slice from r.upto part) (drop r.upto part))
      ∙ ap (λ l. (passed_all f u l).under) (slice_rest part from r.upto v.0 v.1)

  -- all that the bytes print stands behind what was there: nothing of it was lost
  pub walks_collected : at ≤ length before → take r.under.at after ≡ take at before ++ (walked f u part from r.upto).printed
  walks_collected h = all_stood (walked f u part from r.upto).printed before at (pen after r.under.at) w.bytes (w.whole h)
