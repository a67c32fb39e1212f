-- The trace of a call, whatever the chart: whole entries, as many numbers as were used of the room lent. Assumes nothing.
use mathlib.Core.Path.{◌∙◌, ◌≡◌, ap, refl, sym}
use Prim.Native.Nat.{◌*◌, ◌+◌, ◌-◌, ◌/◌, ◌≤◌, suc, ℕ}
use native.Mathlib.Omega.{arith}
use native.Mathlib.Nat.{zero-add}
use mathlib.Core.Bool.{Bool, false, true}
use mathlib.Core.List.{List, [], ◌++◌, ◌∷◌, append_assoc, append-nil}
use lib.ListN.{length, length-append}
use lib.Dec.{leb}
use lib.IntN.{ℤ}
use borrow.Author.Tests.{leb-true}
use Rattle.laws.proofs.Stays.{Plain, react_plain, require_stays, start_plain, then_stays}
use Rattle.laws.proofs.Steps.{Holds}
use Rattle.meaning.specs.Calls.{Outcome, called, fresh, outcome, react, as_found, run, start, start_steps, tests}
use Rattle.meaning.specs.Chart.{Chart}
use Rattle.meaning.specs.Foreign.{own}
use Rattle.meaning.specs.Lists.{concat_map}
use Rattle.meaning.specs.Steps.{Res, ◌then◌, bind, ok, refuse, require}
use Rattle.meaning.specs.Widget.{Ctx, ENTRY, begin, change, emit, numbers, add_numbers}
use Rattle.meaning.specs.declared.Entry.{Entry}
use Rattle.meaning.specs.declared.Entry.TheVariants.{Changed as changed, Entered as entered, Left as left, Sent as sent, Taken as taken, Told as told}
use Rattle.meaning.specs.declared.State.{State}
use Rattle.queue.specs.Queue.{removed}

-- the numbers written are those of entries, and with the room that is left they make up the room lent
pub record Written (n : ℕ) (k : Ctx) : Type 0 where
  pub entries : (es : List Entry) × (k.out ≡ concat_map numbers es)
  pub room : length k.out + k.room ≡ n

pub concat_map_joined : {A B : Type 0} (f : A → List B) (xs ys : List A) → concat_map f (xs ++ ys) ≡ concat_map f xs ++ concat_map f ys
unfolding concat_map
concat_map_joined f [] ys = refl
concat_map_joined f (x ∷ xs) ys = ap (λ l. f x ++ l) (concat_map_joined f xs ys)
    ∙ sym (append_assoc (f x) (concat_map f xs) (concat_map f ys))

-- one more entry
pub numbers_more : (es : List Entry) (out : List ℤ) (e : Entry)
    → out ≡ concat_map numbers es → out ++ numbers e ≡ concat_map numbers (es ++ (e ∷ []))
unfolding concat_map
numbers_more es out e h =
    ap (λ l. l ++ numbers e) h ∙ ap (λ l. concat_map numbers es ++ l) (sym (append-nil (numbers e)))
    ∙ sym (concat_map_joined numbers es (e ∷ []))

pub entry_long : (e : Entry) → length (numbers e) ≡ ENTRY
unfolding numbers
entry_long (taken t) = refl
entry_long (left s) = refl
entry_long (entered s) = refl
entry_long (changed v x) = refl
entry_long (sent e x) = refl
entry_long (told x) = refl

pub numbers_long : (es : List Entry) → length (concat_map numbers es) ≡ ENTRY * length es
unfolding concat_map
numbers_long [] = refl
numbers_long (e ∷ es) = length-append (numbers e) (concat_map numbers es) ∙ ap (λ i. i + length (concat_map numbers es))
    (entry_long e) ∙ ap (λ i. ENTRY + i) (numbers_long es) ∙ one_more_entry (length es)
  where
    one_more_entry : (n : ℕ) → ENTRY + ENTRY * n ≡ ENTRY * suc n
    one_more_entry n = omega arith

written_plain : (n : ℕ) → Plain (Written n)
unfolding emit add_numbers change ◌then◌ require bind
written_plain n = record {
  entries = λ e k h. go e k h (leb ENTRY k.room) refl;
  changes = λ f k h. record { entries = h.entries; room = h.room };
}
  where
    go : (e : Entry) (k : Ctx) → Written n k
        → (b : Bool) → leb ENTRY k.room ≡ b → Holds (bind (require 11 b k) (add_numbers (numbers e))) (Written n)
    go e k h true q = record {
      entries = (h.entries.0 ++ (e ∷ []), numbers_more h.entries.0 k.out e h.entries.1);
      room = ap (λ i. i + (k.room - ENTRY)) (length-append k.out (numbers e))
          ∙ ap (λ i. (length k.out + i) + (k.room - ENTRY)) (entry_long e)
          ∙ left_over (length k.out) k.room (leb-true ENTRY k.room q) h.room;
    }
      where
        left_over : (m i : ℕ) → ENTRY ≤ i → m + i ≡ n → (m + ENTRY) + (i - ENTRY) ≡ n
        left_over m i l e₁ = omega arith
    go e k h false q = tt

begin_written : (u : State) (n : ℕ) → Written n (begin u n)
unfolding begin concat_map
begin_written u n = record { entries = ([], refl); room = zero-add n }

-- what a call writes: whole entries, no more numbers than were lent
pub record FitsRoom (n : ℕ) (o : Outcome) : Type 0 where
  pub entries : (es : List Entry) × (o.trace ≡ concat_map numbers es)
  pub room : length o.trace ≤ n

pub outcome_fits : (n : ℕ) (u : State) (r : Res Ctx) → Holds r (Written n) → FitsRoom n (outcome u r)
unfolding outcome as_found concat_map
outcome_fits n u (ok k) h = record { entries = h.entries; room = omega (arith, h.room) }
outcome_fits n u (refuse e) h = record { entries = ([], refl); room = omega arith }

pub start_fits : (c : Chart) (u : State) (n : ℕ) → FitsRoom n (start c u n)
unfolding start
start_fits c u n = outcome_fits n u (start_steps c (begin (fresh c) n))
    (start_plain (Written n) (written_plain n) c (begin (fresh c) n) (begin_written (fresh c) n))

pub run_fits : (c : Chart) (u : State) (n : ℕ) → FitsRoom n (run c u n)
unfolding run tests
run_fits c u n = outcome_fits n u ((tests c u then react c (removed u.queue)) (begin u n))
    (then_stays (Written n) (tests c u) (react c (removed u.queue)) (then_stays (Written n) (require 7 u.started)
    (require 6 (own c u)) (require_stays (Written n) 7 u.started) (require_stays (Written n) 6 (own c u)))
    (react_plain (Written n) (written_plain n) c (removed u.queue)) (begin u n) (begin_written u n))

-- the count of entries that a call hands out is that of the entries written
pub count_of : (n : ℕ) (o : Outcome) (f : FitsRoom n o) → (called o).entries ≡ length f.entries.0
unfolding called
count_of n o f = ap (λ l. length l / ENTRY) f.entries.1
    ∙ ap (λ i. i / ENTRY) (numbers_long f.entries.0) ∙ thirds (length f.entries.0)
  where
    thirds : (m : ℕ) → (ENTRY * m) / ENTRY ≡ m
    thirds m = omega arith
