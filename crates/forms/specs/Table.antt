-- The table of the grammar's forms, and the form that stands at each entry. Assumes nothing.
use Rattle.std.specs.Prelude.{ℕ, cond, List, [], ◌∷◌, eqb, get_or, Option, None, Some}
use Prim.Native.Char.{code}
use Rattle.sizes.specs.Sizes.{EVENTS}
use Rattle.meaning.specs.Grammar.{Field, turn, number, count, letter, dash, target_state, target_history, target_none, Form, last, ◌tab◌}
use Rattle.meaning.specs.Grammar.{◌or◌, bytes}
use Rattle.forms.specs.declared.Letters.{Letters}
use Rattle.forms.specs.declared.Letters.TheVariants.{O, AOrB, Sign, Owner, Saq, Ko}
use Rattle.forms.specs.declared.Field.{Field as Cell}
use Rattle.forms.specs.declared.Field.TheVariants.{Turn, Number, EventCount, Dash, Letter, TargetState, TargetHistory, InPlace}
use Rattle.forms.specs.declared.Entry.{Entry}
use Rattle.forms.specs.declared.Entry.TheVariants.{Last, More, Or}
use Rattle.forms.specs.declared.TheConstants.{TABLE}

-- how many entries the table has
abbrev pub ENTRIES : ℕ
ENTRIES = 48

abbrev pub letters_of : Letters → List ℕ
letters_of O = bytes "o"
letters_of AOrB = bytes "ab"
letters_of Sign = bytes "=<>"
letters_of Owner = bytes "exdt"
letters_of Saq = bytes "saq"
letters_of Ko = bytes "ko"

-- a field of the code, in the words of the grammar
abbrev pub field_of : Cell → Field
field_of Turn = turn
field_of Number = number
field_of EventCount = count 0 EVENTS
field_of Dash = dash
field_of (Letter l) = letter (letters_of l)
field_of TargetState = target_state
field_of TargetHistory = target_history
field_of InPlace = target_none

-- the field of a code
abbrev pub codes : List (ℕ × Field)
codes =
    (code "n", turn) ∷ (code "#", number) ∷ (code "-", dash)
    ∷ (code "s", target_state) ∷ (code "h", target_history) ∷ (code "_", target_none) ∷ (code "c", count 0 EVENTS)
    ∷ (code "o", letter (bytes "o")) ∷ (code "b", letter (bytes "ab")) ∷ (code "=", letter (bytes "=<>"))
    ∷ (code "w", letter (bytes "exdt"))
    ∷ (code "q", letter (bytes "saq")) ∷ (code "k", letter (bytes "ko")) ∷ []

abbrev pub field_in : List (ℕ × Field) → ℕ → Field
field_in [] k = letter []
field_in (c ∷ cs) k = cond (eqb k c.0) c.1 (field_in cs k)

unfoldable pub field_by : ℕ → Field
field_by k = field_in codes k

-- a field that a code names, if it names one; else a letter of none
abbrev pub coded : Option Cell → Field
coded None = letter []
coded (Some f) = field_of f

unfoldable pub entries_of : List Entry
entries_of = TABLE

-- past the table stands a form that no line has
abbrev pub no_form : Form
no_form = last (letter [])

abbrev pub no_entry : Entry
no_entry = Last Turn

abbrev pub at_entry : List Form → ℕ → Form
at_entry fs i = get_or fs i no_form

-- the form of an entry, from those behind it
abbrev pub entry_form : Entry → List Form → Form
entry_form (Last f) behind = last (field_of f)
entry_form (More f) behind = field_of f tab at_entry behind 0
entry_form (Or k) behind = at_entry behind 0 or at_entry behind k

unfoldable pub forms : List Entry → List Form
forms [] = []
forms (e ∷ es) = entry_form e (forms es) ∷ forms es

unfoldable pub form_at : ℕ → Form
form_at i = at_entry (forms entries_of) i
