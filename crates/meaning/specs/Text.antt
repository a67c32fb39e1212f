-- Chart text both ways (01, "Chart text", "Answer numbers"): the walk over the lines with its first faulty one; reading into lent
-- numbers; writing into lent bytes. In the order: outcomes; the walk; reading; writing. Assumes nothing.
use Rattle.std.specs.Prelude.{ℕ, zero, suc, ◌+◌, Bool, true, false, cond, List, [], ◌∷◌, ◌++◌, length, replicate, ℤ, pos, leb, ltb}
use Rattle.std.proofs.Math.Option.{Option, none, some}
use Rattle.sizes.specs.Sizes.{TEXT}
use Rattle.meaning.specs.Answers.{WRONG_LINE, OUTSIDE_SIZE, RULE_FAILS, TEXT_TOO_LONG}
use Rattle.meaning.specs.Lists.{padded, concat_map, map_from}
use Rattle.meaning.specs.Value.{Rows, rows_of, chart_by, Part, counted, laid, PARTS, room_of, VALUE}
use Rattle.meaning.specs.Rules.{failing_rule, failing_rule_of}
use Rattle.meaning.specs.Split.{fields, lines, ended}
use Rattle.meaning.specs.Grammar.{Record, e_record, ORDER, same, record_by}
use Rattle.meaning.specs.Line.{Line, letter_of, field, Turns, line_of, text_of_row}
use Rattle.meaning.specs.declared.Answer.{Answer}
use Rattle.meaning.specs.declared.Written.{Written}

-- ---- outcomes: done, or refused with an answer number and a place

pub data Result (A : Type 0) : Type 0 where
  done : A → Result A
  refused : ℕ → ℕ → Result A

abbrev pub answer : ℕ → ℕ → Answer
answer n p = record { number = n; place = p }

-- "the place given with an answer is that line for 1 and 2, the rule's number for 3, else 0"
abbrev pub answer_of : {A : Type 0} → Result A → Answer
answer_of (done x) = answer 0 0
answer_of (refused n p) = answer n p

-- so many lent places afterwards: what was done and 0 past it; a refusal zeroes the lent output
unfoldable pub lent_result : {A : Type 0} → A → ℕ → Result (List A) → List A
lent_result z n (done xs) = padded n z xs
lent_result z n (refused a p) = replicate n z

-- its count
abbrev pub count_of : {A : Type 0} → Result (List A) → ℕ
count_of (done xs) = length xs
count_of (refused a p) = 0

-- ---- the walk

abbrev pub no_rows : Rows
no_rows r = []

abbrev pub turns_of : Rows → Turns
turns_of rows r = length (rows r)

-- the rows with one more
unfoldable pub with_row : Record → List ℤ → Rows → Rows
with_row r x rows q = cond (same r q) (rows q ++ (x ∷ [])) (rows q)

-- a line of mark 0 is taken; any other is the first faulty one
abbrev pub further : ℕ → ℕ → Rows → (Rows → Result Rows) → Result Rows
further zero n rows more = more rows
further (suc m) n rows more = refused (suc m) n

abbrev pub after_line : Record → Line → ℕ → Rows → (Rows → Result Rows) → Result Rows
after_line r l n rows more = further l.mark n (with_row r l.row rows) more

-- the record that a line's first field names
abbrev pub record_of : List (List ℕ) → Record
record_of fs = record_by (letter_of (field fs 0))

abbrev pub line_taken : List (List ℕ) → ℕ → Rows → (Rows → Result Rows) → Result Rows
line_taken fs n rows more = after_line (record_of fs) (line_of (record_of fs) (turns_of rows) fs) n rows more

-- behind the last LF there is nothing, and the E line was met: "a text ending without its E line faults at the line after its last"
abbrev pub ending : ℕ → Rows → List ℕ → Result Rows
ending n rows [] = cond (leb 1 (turns_of rows e_record)) (done rows) (refused WRONG_LINE n)
ending n rows (b ∷ bs) = refused WRONG_LINE n

-- "walks the text line by line and reports its first faulty line, counted from 1"
unfoldable pub walk : ℕ → Rows → List (List ℕ) → Result Rows
walk n rows [] = refused WRONG_LINE n
walk n rows (last ∷ []) = ending n rows last
walk n rows (line ∷ next ∷ rest) = line_taken (fields line) n rows (λ more. walk (n + 1) more (next ∷ rest))

-- "line 0 for a text too long, tested first"
abbrev pub read_unless : Bool → List ℕ → Result Rows
read_unless true text = refused OUTSIDE_SIZE 0
read_unless false text = walk 1 no_rows (lines text)

-- the rows that a text states
unfoldable pub read_text : List ℕ → Result Rows
read_text text = read_unless (ltb TEXT (length text)) text

-- ---- reading into lent numbers

abbrev pub flat : List (List ℤ) → List ℤ
flat [] = []
flat (r ∷ rs) = r ++ flat rs

-- the rows of one kind, in room for n numbers
abbrev pub area : ℕ → List (List ℤ) → List ℤ
area n rs = padded n (pos 0) (flat rs)

abbrev pub part_of : Rows → Part → List ℤ
part_of rows (counted r) = pos (length (rows r)) ∷ []
part_of rows (laid r) = area (room_of (laid r)) (rows r)

-- the value of rows, part by part; "places past the counts are 0 after a read"
unfoldable pub value_of : Rows → List ℤ
value_of rows = concat_map (part_of rows) PARTS

abbrev pub by_rule : Option ℕ → Rows → Result (List ℤ)
by_rule none r = done (value_of r)
by_rule (some k) r = refused RULE_FAILS k

-- numbers too few for a value are no chart (R0); then R1 to R7
abbrev pub checked_if : Bool → Rows → Result (List ℤ)
checked_if true r = by_rule (failing_rule (chart_by r)) r
checked_if false r = refused RULE_FAILS 0

abbrev pub checked : ℕ → Result Rows → Result (List ℤ)
checked n (done r) = checked_if (leb VALUE n) r
checked n (refused a p) = refused a p

-- a text read into n lent numbers
unfoldable pub read : List ℕ → ℕ → Result (List ℤ)
read text n = checked n (read_text text)

-- the lent numbers after it
unfoldable pub lent_numbers : ℕ → Result (List ℤ) → List ℤ
lent_numbers n o = lent_result (pos 0) n o

-- ---- writing into lent bytes

-- the lines of one kind
abbrev pub lines_of : Rows → Record → List (List ℕ)
lines_of rows r = map_from (text_of_row r) 0 (rows r)

unfoldable pub text_by : Rows → List ℕ
text_by rows = ended (concat_map (lines_of rows) ORDER)

-- the text of the chart that a value states
unfoldable pub text_of : List ℤ → List ℕ
text_of v = text_by (rows_of v)

-- 13: "text longer than the buffer"
abbrev pub fitting : ℕ → List ℕ → Result (List ℕ)
fitting n text = cond (ltb n (length text)) (refused TEXT_TOO_LONG 0) (done text)

abbrev pub written_by : Option ℕ → List ℤ → ℕ → Result (List ℕ)
written_by none v n = fitting n (text_of v)
written_by (some k) v n = refused RULE_FAILS k

-- a value written into n lent bytes
unfoldable pub write : List ℤ → ℕ → Result (List ℕ)
write v n = written_by (failing_rule_of v) v n

unfoldable pub written : List ℤ → ℕ → Written
written v n = record { answer = answer_of (write v n); length = count_of (write v n) }

-- the lent bytes after it
unfoldable pub lent_bytes : ℕ → Result (List ℕ) → List ℕ
lent_bytes n o = lent_result 0 n o

-- everything above, opened: for statements that compute
unfoldable pub text_open : ℕ
unfolding lent_result with_row walk read_text value_of read lent_numbers text_by text_of write written lent_bytes
text_open = 0
