-- What the functions that load a state cite: the marks tested and read one by one, numbers that state no widget, a widget part by part.
-- Assumes nothing.
use mathlib.Core.Path.{◌≡◌, refl, sym, ap, ◌∙◌}
use mathlib.Core.Bool.{Bool, true, false, not, ◌&&◌, false≢true}
use mathlib.Core.List.{List, [], ◌∷◌, ◌++◌, map}
use Prim.Native.Nat.{ℕ, ◌+◌, ◌<◌, ◌≤◌}
use native.Mathlib.Numerals.{add-one}
use native.Mathlib.Omega.{arith}
use borrow.Author.Tests.{lt-leb, le-leb, le-ltb}
use lib.IntN.{ℤ, pos, negsuc}
use lib.Signed.{lt_z, le_z}
use lib.ListN.{length, get_or, take, drop, set, replicate, length-drop, length-map, length-replicate, get_or-map}
use lib.Seq.{paste, take-suc, take_all, length-take-le, get_or-take, get_or-drop}
use Rattle.sizes.specs.Sizes.{STATES, VARIABLES, STATE_NUMBERS}
use Rattle.numbers.specs.Equal.{eq_z}
use Rattle.numbers.specs.Range.{within}
use Rattle.queue.specs.declared.Queue.{Queue}
use Rattle.queue.specs.Numbers.{QUEUE_NUMBERS, queue_by}
use Rattle.meaning.specs.declared.State.{State}
use Rattle.meaning.specs.Lists.{every}
use Rattle.promises.specs.Saved.{MARKS, SLOTS_AT, VARS_AT, LENGTH_AT, part, is_mark, is_set, states_widget, stated, no_widget, widget_of}
use Rattle.saved.proofs.Pasted.{paste_front, paste_whole}

-- ---- the marks

every_last : {A : Type 0} (p : A → Bool) (xs : List A) (x : A) → every p xs && p x ≡ every p (xs ++ (x ∷ []))
unfolding every
every_last p [] x = go (p x)
  where
    go : (b : Bool) → b ≡ b && true
    go true = refl
    go false = refl
every_last p (y ∷ xs) x = go (p y) ∙ ap (λ b. p y && b) (every_last p xs x)
  where
    go : (b : Bool) → (b && every p xs) && p x ≡ b && (every p xs && p x)
    go true = refl
    go false = refl

-- one more is tested
pub marked_more : (ns : List ℤ) (i : ℕ) {fit m : Bool} → i < length ns → fit ≡ every is_mark (take i ns)
    → m ≡ within (pos 0) (get_or ns i (pos 0)) (pos 1) → fit && m ≡ every is_mark (take (i + 1) ns)
unfolding is_mark
marked_more ns i h e f = rw (e, f, add-one, take-suc ns i (pos 0) h) (every_last is_mark (take i ns) (get_or ns i (pos 0)))

part_long : (ns : List ℤ) → MARKS ≤ length ns → length (map is_set (part 1 STATES ns)) ≡ STATES
unfolding part
part_long ns l = length-map (take STATES (drop 1 ns)) is_set ∙ length-take-le STATES (drop 1 ns) (rw length-drop (omega arith))

-- one more is read
pub active_more : (ns : List ℤ) (now : List Bool) (i : ℕ) (x : Bool) → MARKS ≤ length ns → i < STATES
    → now ≡ paste (replicate STATES false) 0 (map is_set (part 1 STATES ns)) i → x ≡ eq_z (get_or ns (1 + i) (pos 0)) (pos 1)
    → set now i x ≡ paste (replicate STATES false) 0 (map is_set (part 1 STATES ns)) (i + 1)
unfolding is_set part
active_more ns now i x l h e f =
    let k = part_long ns l in
    let r = length-replicate STATES false in
    paste_front (replicate STATES false) (map is_set (part 1 STATES ns)) now i x false e (f ∙ sym at) (omega arith) (omega arith)
  where
    at : get_or (map is_set (part 1 STATES ns)) i false ≡ eq_z (get_or ns (1 + i) (pos 0)) (pos 1)
    at =
        get_or-map is_set (part 1 STATES ns) i (pos 0)
        ∙ ap is_set (get_or-take STATES (drop 1 ns) i (pos 0) h ∙ get_or-drop 1 ns i (pos 0))

-- all are read
pub active_all : (ns : List ℤ) (now : List Bool) (i : ℕ) → MARKS ≤ length ns → i ≡ STATES
    → now ≡ paste (replicate STATES false) 0 (map is_set (part 1 STATES ns)) i → now ≡ map is_set (part 1 STATES ns)
active_all ns now i l h e =
    let k = part_long ns l in
    e ∙ rw h (paste_whole (replicate STATES false) (map is_set (part 1 STATES ns)) STATES (length-replicate STATES false))
    ∙ take_all STATES (map is_set (part 1 STATES ns)) (omega arith)

-- ---- whether numbers state a widget

pub too_short : (ns : List ℤ) → length ns < STATE_NUMBERS → false ≡ states_widget ns
unfolding states_widget
too_short ns h = rw (lt-leb STATE_NUMBERS (length ns) h)

pub no_length : (ns : List ℤ) → STATE_NUMBERS ≤ length ns → lt_z (get_or ns LENGTH_AT (pos 0)) (pos 0) ≡ true → false ≡ states_widget ns
unfolding states_widget
no_length ns h e = rw (le-leb STATE_NUMBERS (length ns) h, e)

pub by_marks : (ns : List ℤ) (m : Bool) → STATE_NUMBERS ≤ length ns → lt_z (get_or ns LENGTH_AT (pos 0)) (pos 0) ≡ false
    → m ≡ every is_mark (take MARKS ns) → m ≡ states_widget ns
unfolding states_widget
by_marks ns m h e f = rw (le-leb STATE_NUMBERS (length ns) h, e) f

-- a test for 0 or more, as one for less
pub not_below : (x : ℤ) → le_z (pos 0) x ≡ true → lt_z x (pos 0) ≡ false
not_below (pos n) h = le-ltb n 0 (omega arith)
not_below (negsuc n) h = absurd (false≢true h)

pub below : (x : ℤ) → le_z (pos 0) x ≡ false → lt_z x (pos 0) ≡ true
below (pos n) h = absurd (false≢true (sym h ∙ le-leb 0 n (omega arith)))
below (negsuc n) h = refl

-- ---- the widget

pub none_loaded : (ns : List ℤ) (u : State) → states_widget ns ≡ false → length ns ≡ 0 → u ≡ no_widget false → u ≡ widget_of ns
unfolding widget_of
none_loaded [] u h l e = rw h e
none_loaded (x ∷ ns) u h l e = absurd (omega arith)

pub no_widget_loaded : (ns : List ℤ) (u : State) (b : Bool) → states_widget ns ≡ false → b ≡ eq_z (get_or ns 0 (pos 0)) (pos 0)
    → u ≡ no_widget (not b) → u ≡ widget_of ns
unfolding widget_of
no_widget_loaded ns u b h f e = rw (h, ← f) e

pub all_loaded : (ns : List ℤ) (s : Bool) (active : List Bool) (slots vars : List ℤ) (q : Queue) → states_widget ns ≡ true
    → s ≡ eq_z (get_or ns 0 (pos 0)) (pos 1) → active ≡ map is_set (part 1 STATES ns) → slots ≡ part SLOTS_AT STATES ns
    → vars ≡ part VARS_AT VARIABLES ns → q ≡ queue_by (part LENGTH_AT QUEUE_NUMBERS ns)
    → ◌≡◌ {A = State} (record { started = s; active = active; slots = slots; vars = vars; queue = q }) (widget_of ns)
unfolding widget_of stated is_set
all_loaded ns s active slots vars q h a b c d e = rw (h, a, b, c, d, e)

-- a part that was copied into an array of its size
pub copied_part : (d ns now : List ℤ) (at n : ℕ) → length d ≡ n → now ≡ paste d 0 (drop at ns) n → now ≡ part at n ns
unfolding part
copied_part d ns now at n l e = e ∙ paste_whole d (drop at ns) n l
