-- The input line under way (01, the end of "Checked by example"): what it is after each byte, and what line it is at the end.
-- That this is `Line-of (fields bs)` for every list of bytes is proved in proofs/Lines. Assumes nothing.
use Rattle.std.specs.Prelude.{ℕ, Bool, true, false, cond, List, [], ◌∷◌, ltb, eqb, ℤ, pos, Option, None, Some, Result, Ok, Err}
use Rattle.meaning.specs.declared.Fault.{Fault}
use Rattle.meaning.specs.declared.Fault.TheVariants as fault
use Rattle.meaning.specs.Number.{BEYOND, capped, with_no_sign, minus}
use Rattle.meaning.specs.Split.{TAB}
use Rattle.meaning.specs.Program.{Input, another_form, input_by}
use Rattle.numerals.specs.Small.{grown}
use Rattle.console.specs.declared.scan.Digits.{Digits}
use Rattle.console.specs.declared.scan.Digits.TheVariants.{Start, Minus, Zero, Plain, Negative, Broken}
use Rattle.console.specs.declared.scan.Scan.{Scan}
use Rattle.console.specs.declared.scan.Scan.TheVariants.{Event, Argument, More}

-- the code of the digit 0, of 9 and of minus
abbrev pub ZERO : ℕ
ZERO = 48

abbrev pub NINE : ℕ
NINE = 57

abbrev pub MINUS : ℕ
MINUS = 45

-- ---- a field under way

-- a digit gives p, any other byte breaks the field
abbrev pub if_digit : ℕ → Digits → Digits
if_digit b p = cond (ltb b ZERO) Broken (cond (ltb NINE b) Broken p)

-- a field after one byte more: "no leading zero, plus or minus zero"
unfoldable pub digits_fed : Digits → ℕ → Digits
digits_fed Start b = cond (eqb b MINUS) Minus (cond (eqb b ZERO) Zero (if_digit b (Plain (grown 0 b))))
digits_fed Minus b = cond (eqb b ZERO) Broken (if_digit b (Negative (grown 0 b)))
digits_fed Zero b = Broken
digits_fed (Plain v) b = if_digit b (Plain (grown v b))
digits_fed (Negative v) b = if_digit b (Negative (grown v b))
digits_fed Broken b = Broken

-- the number that the field is, if it ends here
unfoldable pub digits_number : Digits → Result ℤ Fault
digits_number Start = Err fault.Wrong
digits_number Minus = Err fault.Wrong
digits_number Zero = with_no_sign (capped (Some 0))
digits_number (Plain v) = with_no_sign (capped (Some v))
digits_number (Negative v) = minus (capped (Some v))
digits_number Broken = Err fault.Wrong

-- what is posted for a number: "a number past ±1,000,000,000 is posted as 1,000,000,001"
abbrev pub posted : Result ℤ Fault → Option ℤ
posted (Ok n) = Some n
posted (Err fault.Beyond) = Some (pos BEYOND)
posted (Err fault.Wrong) = None

-- ---- a line under way

-- before its first byte
unfoldable pub empty : Scan
empty = Event Start

-- whether any byte was fed: "The last line may lack its LF", and after the last LF there is no further line
unfoldable pub began : Scan → Bool
began (Event Start) = false
began (Event Minus) = true
began (Event Zero) = true
began (Event (Plain v)) = true
began (Event (Negative v)) = true
began (Event Broken) = true
began (Argument e a) = true
began More = true

-- after one byte more: a tab ends a field
unfoldable pub fed : Scan → ℕ → Scan
fed (Event p) b = cond (eqb b TAB) (Argument p Start) (Event (digits_fed p b))
fed (Argument e p) b = cond (eqb b TAB) More (Argument e (digits_fed p b))
fed More b = More

-- the line, if it ends here
unfoldable pub line_at : Scan → Input
line_at (Event p) = another_form
line_at (Argument e a) = input_by (digits_number e) (digits_number a)
line_at More = another_form

-- ---- a list of bytes, fed one after the other

unfoldable pub scan_on : Scan → List ℕ → Scan
scan_on s [] = s
scan_on s (b ∷ bs) = scan_on (fed s b) bs

unfoldable pub scan_of : List ℕ → Scan
scan_of bs = scan_on empty bs
