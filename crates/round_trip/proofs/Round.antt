-- Chart text both ways, the two theorems. Accepted text is written back to the same bytes; a chart that passes the rules, written and
-- read again, is the same chart. In the order: what a rule's verdict says; read then written; written then read. Assumes nothing.
use mathlib.Core.Path.{◌≡◌, refl}
use mathlib.Core.Bool.{Bool, true, false, ◌&&◌}
use mathlib.Core.List.{List, [], ◌∷◌}
use mathlib.Core.Option.{Option, none, some}
use Prim.Native.Nat.{ℕ, ◌≤◌}
use lib.Dec.{leb}
use lib.IntN.{ℤ}
use lib.ListN.{length, length-map}
use borrow.Author.Tests.{leb-true, le-leb, le-ltb}
use Rattle.sizes.specs.Sizes.{TEXT}
use Rattle.meaning.specs.Grammar.{s_record}
use Rattle.meaning.specs.Value.{Rows, VALUE, state_by, rows_of, chart_by, chart_of, rule_0}
use Rattle.meaning.specs.Chart.{Chart}
use Rattle.meaning.specs.Tree.{is_o, kind_of}
use Rattle.meaning.specs.Rules.{rule_1, rule_2, rule_3, rule_4, rule_5, rule_6, rule_7, first_failing, failing_rule, after_rule_0}
use Rattle.meaning.specs.Rules.{failing_rule_of}
use Rattle.meaning.specs.Text.{Result, done, refused, value_of, by_rule, checked_if, checked, read_text, read, text_of, write}
use Rattle.round_trip.proofs.Numbers.{no}
use Rattle.round_trip.proofs.Fields.{both}
use Rattle.round_trip.proofs.WalkKept.{text_kept}
use Rattle.round_trip.proofs.WalkRead.{text_reads}
use Rattle.round_trip.proofs.Values.{back, value_keeps, value_shaped}
use Rattle.round_trip.proofs.Same.{Same, value_same}
use Rattle.round_trip.proofs.Short.{text_short}

-- ---- verdicts

first_is : (n : ℕ) (b : Bool) (bs : List Bool) → first_failing n (b ∷ bs) ≡ none → b ≡ true
unfolding first_failing
first_is n true bs e = refl
first_is n false bs e = no cc

-- a chart that no rule refuses has at least two states
two_states : (c : Chart) → failing_rule c ≡ none → 2 ≤ length c.states
unfolding failing_rule rule_1
two_states c e =
    let r =
    first_is 1 (leb 2 (length c.states) && is_o (kind_of c 0))
    (rule_2 c ∷ rule_3 c ∷ rule_4 c ∷ rule_5 c ∷ rule_6 c ∷ rule_7 c ∷ []) e in
    leb-true 2 (length c.states) (both (leb 2 (length c.states)) (is_o (kind_of c 0)) r).0

two_rows : (r : Rows) → failing_rule (chart_by r) ≡ none → 2 ≤ length (r s_record)
unfolding chart_by
two_rows r e = rw (length-map (r s_record) state_by) at (two_states (chart_by r) e)

-- a value that no rule refuses keeps R0, and its chart passes R1 to R7
pub record Passes (v : List ℤ) : Type 0 where
  pub keeps : rule_0 v ≡ true
  pub rest : failing_rule (chart_by (rows_of v)) ≡ none

pub passes : (v : List ℤ) → failing_rule_of v ≡ none → Passes v
unfolding failing_rule_of chart_of
passes v e = go (rule_0 v) refl e
  where
    go : (t : Bool) → rule_0 v ≡ t → after_rule_0 t (chart_of v) ≡ none → Passes v
    go true h e = record { keeps = h; rest = e }
    go false h e = no cc

-- ---- read, then written

-- what a text that is accepted says: its rows, which a text can state and no rule refuses, and their value
record Accepted (text : List ℕ) (v : List ℤ) : Type 0 where
  rows : Rows
  stated : read_text text ≡ done rows
  allowed : failing_rule (chart_by rows) ≡ none
  value : v ≡ value_of rows

accepted : (text : List ℕ) (n : ℕ) (v : List ℤ) → read text n ≡ done v → Accepted text v
unfolding read
accepted text n v e = go (read_text text) refl e
  where
    rule : (r : Rows) (o : Option ℕ) → read_text text ≡ done r → failing_rule (chart_by r) ≡ o → by_rule o r ≡ done v → Accepted text v
    rule r none s f e = record { rows = r; stated = s; allowed = f; value = cc }
    rule r (some k) s f e = no cc

    room : (r : Rows) (t : Bool) → read_text text ≡ done r → checked_if t r ≡ done v → Accepted text v
    room r true s e = rule r (failing_rule (chart_by r)) s refl e
    room r false s e = no cc

    go : (o : Result Rows) → read_text text ≡ o → checked n o ≡ done v → Accepted text v
    go (done r) s e = room r (leb VALUE n) s e
    go (refused a p) s e = no cc

-- accepted text is written back to the same bytes
pub read_then_text : (text : List ℕ) (n : ℕ) (v : List ℤ) → read text n ≡ done v → text_of v ≡ text
unfolding text_of
read_then_text text n v e =
    let a = accepted text n v e in
    let k = text_kept text a.rows a.stated in
    rw (a.value, back a.rows k.1) k.0

-- the value that was read passes all rules
pub read_then_rules : (text : List ℕ) (n : ℕ) (v : List ℤ) → read text n ≡ done v → failing_rule_of v ≡ none
unfolding failing_rule_of chart_of
read_then_rules text n v e =
    let a = accepted text n v e in
    let k = text_kept text a.rows a.stated in
    rw (a.value, value_keeps a.rows k.1 (two_rows a.rows a.allowed), back a.rows k.1) a.allowed

-- and writing it into any buffer that is long enough gives those bytes
pub read_then_write : (text : List ℕ) (n : ℕ) (v : List ℤ) (m : ℕ) → read text n ≡ done v → length text ≤ m → write v m ≡ done text
unfolding write
read_then_write text n v m e h = rw (read_then_rules text n v e, read_then_text text n v e, le-ltb m (length text) h)

-- ---- written, then read

-- the text of a chart that passes the rules is never too long
pub text_fits : (v : List ℤ) → failing_rule_of v ≡ none → length (text_of v) ≤ TEXT
unfolding text_of
text_fits v e = text_short v (passes v e).keeps (passes v e).rest

-- a chart that passes the rules, written and read again into enough numbers, is the value of its rows
pub write_then_read : (v : List ℤ) (n : ℕ) → failing_rule_of v ≡ none → VALUE ≤ n → read (text_of v) n ≡ done (value_of (rows_of v))
unfolding read text_of
write_then_read v n e h =
    let p = passes v e in
    rw (text_reads (rows_of v) (value_shaped v p.keeps) (text_short v p.keeps p.rest), le-leb VALUE n h, p.rest)

-- which is the same chart: the counts and every place within them are the same, and places past the counts are 0
pub write_then_same : (v : List ℤ) → failing_rule_of v ≡ none → Same v (value_of (rows_of v))
write_then_same v e = value_same v (passes v e).keeps
